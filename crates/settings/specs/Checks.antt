-- What choices must keep to, and the refusal where they do not.
use Rattle.std.specs.Prelude.{Bool, true, false, cond, not, ◌&&◌, ◌||◌, List, [], ◌∷◌, ℤ, is_some, Some, None, Ok, Err, Option, Result}
use Rattle.refusal.specs.declared.Refusal.{Refusal}
use Rattle.refusal.specs.declared.Reason.{Reason}
use Rattle.refusal.specs.declared.Reason.TheVariants.{ValueOutOfRange, FieldsConflict}
use Rattle.refusal.specs.Refusals.{refusal}
use Rattle.counter.specs.declared.meaning.Meaning.{Meaning}
use Rattle.counter.specs.Counting.{accepts}
use Rattle.counter.specs.Rows.{row, has_row, end_fits}
use Rattle.settings.specs.declared.choices.DiFunction.{DiFunction}
use Rattle.settings.specs.declared.choices.DiFunction.TheVariants.{Input, HardwareGate, LatchAndRetrigger, Synchronisation, Latch}
use Rattle.settings.specs.declared.choices.Choices.{Choices}
use Rattle.settings.specs.declared.field.Field.{Field}
use Rattle.settings.specs.declared.field.Field.TheVariants as field
use Rattle.settings.specs.Fields.{place_of}
use Rattle.settings.specs.Rule.{◌and_then◌}
use Rattle.settings.specs.Values.{duration_fits}

-- a field, and whether something is wrong with it
pub record Finding : Type 0 where
  pub field : Field
  pub wrong : Bool

-- a row of the two tables below
abbrev pub finding : Field → Bool → Finding
finding f wrong = record { field = f; wrong = wrong }

-- the first field with which something is wrong
abbrev pub first_wrong : List Finding → Option Field
first_wrong [] = None
first_wrong (f ∷ fs) = cond f.wrong (Some f.field) (first_wrong fs)

-- what the counter means that the choices pick
abbrev pub picked_row : Choices → Meaning
picked_row c = row c.mode c.direction c.end c.load

-- whether a value lies within the limits of that counter
abbrev pub within : Choices → ℤ → Bool
within c value = accepts (picked_row c) value

-- whether the digital input is the hardware gate
abbrev pub is_gate : DiFunction → Bool
is_gate Input = false
is_gate HardwareGate = true
is_gate LatchAndRetrigger = false
is_gate Synchronisation = false
is_gate Latch = false

-- an endless counter has no main count direction
abbrev pub direction_agrees : Choices → Bool
direction_agrees c = has_row c.mode c.direction

-- only the input of the hardware gate can be inverted
abbrev pub gate_input_agrees : Choices → Bool
gate_input_agrees c = not c.gate_input_inverted || is_gate c.di_function

-- the ranges of single fields: the other choices have no values outside theirs
abbrev pub ranges : Choices → List Finding
ranges c =
    finding field.End (not (end_fits c.end))
    ∷ finding field.Output1 (not (duration_fits c.output1.duration))
    ∷ finding field.Output2 (not (duration_fits c.output2.duration))
    ∷ []

-- the conflicts between fields
abbrev pub conflicts : Choices → List Finding
conflicts c =
    finding field.Direction (not (direction_agrees c))
    ∷ finding field.Load (not (within c c.load))
    ∷ finding field.GateInputInverted (not (gate_input_agrees c))
    ∷ finding field.Output1 (not (within c c.output1.comparison))
    ∷ finding field.Output2 (not (within c c.output2.comparison))
    ∷ []

-- the first field out of its range
abbrev pub first_out_of_range : Choices → Option Field
first_out_of_range c = first_wrong (ranges c)

-- the first field in conflict
abbrev pub first_conflict : Choices → Option Field
first_conflict c = first_wrong (conflicts c)

-- the choices, unless a field is to be refused for this reason
abbrev pub unless : Reason → Option Field → Choices → Result Choices Refusal
unless reason None c = Ok c
unless reason (Some f) c = Err (refusal reason (place_of f))

-- the verdict on the ranges
abbrev pub ranged : Choices → Result Choices Refusal
ranged c = unless ValueOutOfRange (first_out_of_range c) c

-- the verdict on the agreement
abbrev pub agreed : Choices → Result Choices Refusal
agreed c = unless FieldsConflict (first_conflict c) c

-- first the ranges, then the agreement
abbrev pub checked : Choices → Result Choices Refusal
checked c = ranged c and_then agreed

-- nothing is wrong with these choices
abbrev pub keeps : Choices → Bool
keeps c = not (is_some (first_out_of_range c)) && not (is_some (first_conflict c))
