-- The values of fields: what is written reads back, and what is read was written so.
use Rattle.std.proofs.Common.{◌≡◌, ℕ, ◌+◌, ◌*◌, ◌/◌, ◌%◌, ◌<◌, Bool, true, false, cond, eqb, List, [], ◌∷◌, ℤ, Some, None, Option, refl, ap, ◌∙◌, arith, w32, SFits, to_z, of_z, eqb-true}
use Rattle.std.proofs.lemmas.Int.{to_z-of_z, of_z-to_z}
use Rattle.std.proofs.lemmas.Nat.{from_be_bytes-to_be_bytes_4}
use Rattle.std.proofs.lemmas.Option.{cond_some}
use Rattle.std.proofs.Math.Facts.{Fits-of_z}
use Rattle.std.specs.List.{AllByRecursion as All}
use Rattle.settings.specs.declared.value.End.{End}
use Rattle.counter.specs.declared.mode.Mode.{Mode}
use Rattle.counter.specs.declared.mode.Mode.TheVariants as mode
use Rattle.counter.specs.declared.mode.MainDirection.{MainDirection}
use Rattle.counter.specs.declared.mode.MainDirection.TheVariants as direction
use Rattle.encoder.specs.declared.picked.PickedEvaluation.{PickedEvaluation}
use Rattle.encoder.specs.declared.picked.PickedEvaluation.TheVariants as evaluation
use Rattle.settings.specs.declared.choices.DiFunction.{DiFunction}
use Rattle.settings.specs.declared.choices.DiFunction.TheVariants as di
use Rattle.settings.specs.declared.choices.GateFunction.{GateFunction}
use Rattle.settings.specs.declared.choices.GateFunction.TheVariants as gate
use Rattle.settings.specs.declared.choices.Synchronisation.{Synchronisation}
use Rattle.settings.specs.declared.choices.Synchronisation.TheVariants as sync
use Rattle.settings.specs.declared.choices.Behaviour.{Behaviour}
use Rattle.settings.specs.declared.choices.Behaviour.TheVariants as behaviour
use Rattle.settings.specs.declared.choices.Output.{Output}
use Rattle.counter.specs.Rows.{end_fits}
use Rattle.settings.specs.Values.{mode_code, mode_read, direction_code, direction_read, evaluation_code, evaluation_read, flag_code, flag_read, di_code, di_read, gate_code, gate_read, synchronisation_code, synchronisation_read, behaviour_code, behaviours, behaviour_read, decoded, coded, number, number_read, number_written, end_valued, end_read, duration_fits, output, output_read, output_written}

-- a byte
abbrev pub Byte : ℕ → Type 0
Byte b = b < 256

-- a code reads back as its choice
pub mode_back : (v : Mode) → mode_read (mode_code v ∷ []) ≡ Some v
unfolding coded
mode_back = elim [ mode.Endless ↦ refl | mode.Once ↦ refl | mode.Periodic ↦ refl ]

pub direction_back : (v : MainDirection) → direction_read (direction_code v ∷ []) ≡ Some v
unfolding coded
direction_back = elim [ direction.Neither ↦ refl | direction.Up ↦ refl | direction.Down ↦ refl ]

pub evaluation_back : (v : PickedEvaluation) → evaluation_read (evaluation_code v ∷ []) ≡ Some v
unfolding coded
evaluation_back = elim [ evaluation.PulseDirection ↦ refl | evaluation.Single ↦ refl | evaluation.Double ↦ refl | evaluation.Quadruple ↦ refl ]

pub flag_back : (v : Bool) → flag_read (flag_code v ∷ []) ≡ Some v
unfolding coded
flag_back = elim [ false ↦ refl | true ↦ refl ]

pub di_back : (v : DiFunction) → di_read (di_code v ∷ []) ≡ Some v
unfolding coded
di_back = elim [ di.Input ↦ refl | di.HardwareGate ↦ refl | di.LatchAndRetrigger ↦ refl | di.Synchronisation ↦ refl | di.Latch ↦ refl ]

pub gate_back : (v : GateFunction) → gate_read (gate_code v ∷ []) ≡ Some v
unfolding coded
gate_back = elim [ gate.Cancel ↦ refl | gate.Interrupt ↦ refl ]

pub synchronisation_back : (v : Synchronisation) → synchronisation_read (synchronisation_code v ∷ []) ≡ Some v
unfolding coded
synchronisation_back = elim [ sync.Once ↦ refl | sync.Periodic ↦ refl ]

pub behaviour_back : (v : Behaviour) → behaviour_read (behaviour_code v ∷ []) ≡ Some v
unfolding coded
behaviour_back = elim [ behaviour.FollowsBit ↦ refl | behaviour.OnAtOrAbove ↦ refl | behaviour.OnAtOrBelow ↦ refl | behaviour.Pulse ↦ refl ]

-- a choice that was read has the code that stood there
decoded_by : {V : Type 0} (code : V → ℕ) (w : V) (others : Option V) (c : ℕ) (v : V) (b : Bool) → eqb c (code w) ≡ b → (others ≡ Some v → c ≡ code v) → cond b (Some w) others ≡ Some v → c ≡ code v
decoded_by code w others c v true is later e = eqb-true c (code w) is ∙ cc
decoded_by code w others c v false is later e = later e

decoded_code : {V : Type 0} (code : V → ℕ) (vs : List V) (c : ℕ) (v : V) → decoded code vs c ≡ Some v → c ≡ code v
decoded_code code [] c v e = cc
decoded_code code (w ∷ vs) c v e = decoded_by code w (decoded code vs c) c v (eqb c (code w)) refl (decoded_code code vs c v) e

pub coded_own : {V : Type 0} (code : V → ℕ) (vs : List V) (bytes : List ℕ) (v : V) → All Byte bytes → coded code vs bytes ≡ Some v → bytes ≡ code v ∷ []
unfolding coded
coded_own code vs [] v all e = cc
coded_own code vs (c ∷ []) v all e = ap (λ n. n ∷ []) (decoded_code code vs c v e)
coded_own code vs (c ∷ d ∷ more) v all e = cc

-- the four bytes of a number make it up again
pub number_made : (z : ℤ) → SFits w32 z → number (of_z w32 z / 16777216 % 256) (of_z w32 z / 65536 % 256) (of_z w32 z / 256 % 256) (of_z w32 z % 256) ≡ z
number_made z fits = ap (to_z w32) (from_be_bytes-to_be_bytes_4 (of_z w32 z) (omega (arith, Fits-of_z fits))) ∙ to_z-of_z w32 z fits

-- and four bytes are those of the number that they make up
number_bytes : (a b c d : ℕ) → a < 256 → b < 256 → c < 256 → d < 256 → a ∷ b ∷ c ∷ d ∷ [] ≡ number_written (number a b c d)
number_bytes a b c d ha hb hc hd =
    let same : of_z w32 (to_z w32 (a * 16777216 + b * 65536 + c * 256 + d)) ≡ a * 16777216 + b * 65536 + c * 256 + d = of_z-to_z w32 (a * 16777216 + b * 65536 + c * 256 + d) (omega arith) in
    let first : (a * 16777216 + b * 65536 + c * 256 + d) / 16777216 % 256 ≡ a = omega arith in
    let second : (a * 16777216 + b * 65536 + c * 256 + d) / 65536 % 256 ≡ b = omega arith in
    let third : (a * 16777216 + b * 65536 + c * 256 + d) / 256 % 256 ≡ c = omega arith in
    let fourth : (a * 16777216 + b * 65536 + c * 256 + d) % 256 ≡ d = omega arith in
    cc

-- an end value reads back where it is in its range
pub end_back : (z : ℤ) → SFits w32 z → end_read (number_written z) ≡ cond (end_fits z) (Some (record { 0 = z })) None
end_back z fits = ap (λ n. end_valued (Some n)) (number_made z fits)

pub ruleset backs = (mode_back, direction_back, evaluation_back, flag_back, di_back, gate_back, synchronisation_back, behaviour_back, number_made, end_back)

-- numbers, end values and outputs that were read stood there as they are written
pub number_own : (bytes : List ℕ) (z : ℤ) → All Byte bytes → number_read bytes ≡ Some z → bytes ≡ number_written z
number_own [] z all e = cc
number_own (a ∷ []) z all e = cc
number_own (a ∷ b ∷ []) z all e = cc
number_own (a ∷ b ∷ c ∷ []) z all e = cc
number_own (a ∷ b ∷ c ∷ d ∷ []) z all e =
    let is : number a b c d ≡ z = cc in
    number_bytes a b c d all.0 all.1.0 all.1.1.0 all.1.1.1.0 ∙ ap number_written is
number_own (a ∷ b ∷ c ∷ d ∷ f ∷ more) z all e = cc

end_by : (bytes : List ℕ) (v : End) (n : Option ℤ) → All Byte bytes → number_read bytes ≡ n → end_valued n ≡ Some v → bytes ≡ number_written v.0
end_by bytes v None all is e = cc
end_by bytes v (Some z) all is e = number_own bytes z all is ∙ ap (λ v. number_written v.0) (cond_some (end_fits z) (record { 0 = z }) v e).1

pub end_own : (bytes : List ℕ) (v : End) → All Byte bytes → end_read bytes ≡ Some v → bytes ≡ number_written v.0
end_own bytes v all e = end_by bytes v (number_read bytes) all refl e

output_by : (c h d : ℕ) (comparison : List ℕ) (o : Output) (b : Option Behaviour) (n : Option ℤ) → All Byte comparison → decoded behaviour_code behaviours c ≡ b → number_read comparison ≡ n → output h d b n ≡ Some o → c ∷ h ∷ d ∷ comparison ≡ output_written o
output_by c h d comparison o None n all is_b is-n e = cc
output_by c h d comparison o (Some b) None all is_b is-n e = cc
output_by c h d comparison o (Some b) (Some z) all is_b is-n e =
    let first = decoded_code behaviour_code behaviours c b is_b in
    let last = number_own comparison z all is-n in
    let is = cond_some (duration_fits d) (record { behaviour = b; hysteresis = h; duration = d; comparison = z }) o e in
    let whole : c ∷ h ∷ d ∷ comparison ≡ behaviour_code b ∷ h ∷ d ∷ number_written z = cc in
    whole ∙ ap output_written is.1

pub output_own : (bytes : List ℕ) (o : Output) → All Byte bytes → output_read bytes ≡ Some o → bytes ≡ output_written o
unfolding coded
output_own [] o all e = cc
output_own (b ∷ []) o all e = cc
output_own (b ∷ h ∷ []) o all e = cc
output_own (b ∷ h ∷ d ∷ comparison) o all e = output_by b h d comparison o (decoded behaviour_code behaviours b) (number_read comparison) all.1.1.1 refl refl e
