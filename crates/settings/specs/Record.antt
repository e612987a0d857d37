-- The parameter record: what it says, when it is refused, and how it is written.
use Rattle.std.specs.Prelude.{◌≡◌, ℕ, ◌<◌, ◌≤◌, List, [], ◌∷◌, ◌++◌, length, take, drop, Ok, Err, Option, Result, ◌≢◌}
use Rattle.refusal.specs.declared.Refusal.{Refusal}
use Rattle.refusal.specs.declared.Reason.TheVariants.{SurplusBytes, BufferTooShort}
use Rattle.refusal.specs.Refusals.{refusal}
use Rattle.settings.specs.declared.choices.Choices.{Choices}
use Rattle.settings.specs.declared.field.Field.{Field}
use Rattle.settings.specs.declared.field.Field.TheVariants.{Mode, Direction, End, Load, Evaluation, BInverted, DiFunction, GateInputInverted, Gate, Synchronisation, Output1, Output2}
use Rattle.settings.specs.Fields.{record_size, written}
use Rattle.settings.specs.Rule.{◌and_then◌, taken}
use Rattle.settings.specs.Values.{mode_read, direction_read, end_read, number_read, evaluation_read, flag_read, di_read, gate_read, synchronisation_read, output_read, mode_code, direction_code, number_written, evaluation_code, flag_code, di_code, gate_code, synchronisation_code, output_written}
use Rattle.settings.specs.Checks.{agreed}

-- a field is taken, and with its value reading goes on
abbrev pub field : {V B : Type 0} → Field → (List ℕ → Option V) → (V → List ℕ → Result B Refusal) → List ℕ → Result B Refusal
field f reads next bytes = taken f reads bytes and_then (λ t. next t.value t.rest)

-- nothing follows the last field
abbrev pub ending : {B : Type 0} → B → List ℕ → Result B Refusal
ending b [] = Ok b
ending b (more ∷ bytes) = Err (refusal SurplusBytes record_size)

-- the fields of a record, in their order, each with its values
abbrev pub choices_read : List ℕ → Result Choices Refusal
choices_read =
    field Mode mode_read (λ mode.
    field Direction direction_read (λ direction.
    field End end_read (λ end.
    field Load number_read (λ load.
    field Evaluation evaluation_read (λ evaluation.
    field BInverted flag_read (λ b_inverted.
    field DiFunction di_read (λ di.
    field GateInputInverted flag_read (λ gate_inverted.
    field Gate gate_read (λ gate.
    field Synchronisation synchronisation_read (λ synchronisation.
    field Output1 output_read (λ output1.
    field Output2 output_read (λ output2.
    ending (record { mode = mode; direction = direction; end = end.0; load = load; evaluation = evaluation; b_inverted = b_inverted; di_function = di; gate_input_inverted = gate_inverted; gate = gate; synchronisation = synchronisation; output1 = output1; output2 = output2 })))))))))))))

-- the verdict on a record: first its fields, then their agreement
abbrev pub verdict : List ℕ → Result Choices Refusal
verdict bytes = choices_read bytes and_then agreed

-- the record of some choices
abbrev pub record_of : Choices → List ℕ
record_of c =
    written Mode (mode_code c.mode ∷ [])
    ++ (written Direction (direction_code c.direction ∷ [])
    ++ (written End (number_written c.end)
    ++ (written Load (number_written c.load)
    ++ (written Evaluation (evaluation_code c.evaluation ∷ [])
    ++ (written BInverted (flag_code c.b_inverted ∷ [])
    ++ (written DiFunction (di_code c.di_function ∷ [])
    ++ (written GateInputInverted (flag_code c.gate_input_inverted ∷ [])
    ++ (written Gate (gate_code c.gate ∷ [])
    ++ (written Synchronisation (synchronisation_code c.synchronisation ∷ [])
    ++ (written Output1 (output_written c.output1)
    ++ (written Output2 (output_written c.output2)
    ++ [])))))))))))

-- a call answers parameters of the choices in this verdict, or its refusal
abbrev pub Gives : {P : Type 0} → (P → Choices) → Result P Refusal → Result Choices Refusal → Type 0
Gives choices (Ok p) verdict = verdict ≡ Ok (choices p)
Gives choices (Err e) verdict = verdict ≡ Err e

-- the parameters that a call answers hold these choices
abbrev pub Holds : {P : Type 0} → (P → Choices) → Result P Refusal → Choices → Type 0
Holds choices (Ok p) c = choices p ≡ c
Holds choices (Err e) c = Unit {0}

-- a record is accepted exactly where it is the record of some parameters, and then of those that are answered
abbrev pub AcceptsOwn : {P : Type 0} → (P → Choices) → List ℕ → Result P Refusal → Type 0
AcceptsOwn choices bytes (Ok p) = bytes ≡ record_of (choices p)
AcceptsOwn {P} choices bytes (Err e) = (p : P) → bytes ≢ record_of (choices p)

-- a record is written at the head of a buffer with room for it, and the rest remains; a shorter buffer is left as it was
abbrev pub Writes : {U : Type 0} → Choices → List ℕ → List ℕ → Result U Refusal → Type 0
Writes c before after (Ok u) = (record_size ≤ length before) × (after ≡ record_of c ++ drop record_size before)
Writes c before after (Err e) = (length before < record_size) × (after ≡ before) × (e ≡ refusal BufferTooShort 0)

-- what was written reads back as the same choices
abbrev pub ReadsBack : {U : Type 0} → Choices → List ℕ → Result U Refusal → Type 0
ReadsBack c after (Ok u) = verdict (take record_size after) ≡ Ok c
ReadsBack c after (Err e) = Unit {0}
