-- The values of fields: codes, numbers and outputs.
use Rattle.std.specs.Prelude.{ℕ, ◌+◌, ◌*◌, ◌/◌, ◌%◌, Bool, true, false, cond, ◌&&◌, List, [], ◌∷◌, ℤ, Some, None, Option, ◌==◌, nat_le}
use Rattle.std.proofs.Common.{to_z, of_z}
use Rattle.std.specs.Int.{w32}
use Rattle.std.specs.List.{find}
use Rattle.counter.specs.declared.mode.Mode.{Mode}
use Rattle.counter.specs.declared.mode.Mode.TheVariants as mode
use Rattle.counter.specs.declared.mode.MainDirection.{MainDirection}
use Rattle.counter.specs.declared.mode.MainDirection.TheVariants as direction
use Rattle.counter.specs.Rows.{end_fits}
use Rattle.encoder.specs.declared.picked.PickedEvaluation.{PickedEvaluation}
use Rattle.encoder.specs.declared.picked.PickedEvaluation.TheVariants as evaluation
use Rattle.settings.specs.declared.choices.DiFunction.{DiFunction}
use Rattle.settings.specs.declared.choices.DiFunction.TheVariants as di
use Rattle.settings.specs.declared.choices.GateFunction.{GateFunction}
use Rattle.settings.specs.declared.choices.GateFunction.TheVariants as gate
use Rattle.settings.specs.declared.choices.Synchronisation.{Synchronisation}
use Rattle.settings.specs.declared.choices.Synchronisation.TheVariants as sync
use Rattle.settings.specs.declared.choices.Behaviour.{Behaviour}
use Rattle.settings.specs.declared.choices.Behaviour.TheVariants as behaviour
use Rattle.settings.specs.declared.choices.Output.{Output}
use Rattle.settings.specs.declared.value.End.{End}

-- the choices that have one byte: the code of each, and all that there are
abbrev pub mode_code : Mode → ℕ
mode_code mode.Endless = 0
mode_code mode.Once = 1
mode_code mode.Periodic = 2

abbrev pub modes : List Mode
modes = mode.Endless ∷ mode.Once ∷ mode.Periodic ∷ []

abbrev pub direction_code : MainDirection → ℕ
direction_code direction.Neither = 0
direction_code direction.Up = 1
direction_code direction.Down = 2

abbrev pub directions : List MainDirection
directions = direction.Neither ∷ direction.Up ∷ direction.Down ∷ []

abbrev pub evaluation_code : PickedEvaluation → ℕ
evaluation_code evaluation.PulseDirection = 0
evaluation_code evaluation.Single = 1
evaluation_code evaluation.Double = 2
evaluation_code evaluation.Quadruple = 4

abbrev pub evaluations : List PickedEvaluation
evaluations = evaluation.PulseDirection ∷ evaluation.Single ∷ evaluation.Double ∷ evaluation.Quadruple ∷ []

abbrev pub flag_code : Bool → ℕ
flag_code false = 0
flag_code true = 1

abbrev pub flags : List Bool
flags = false ∷ true ∷ []

abbrev pub di_code : DiFunction → ℕ
di_code di.Input = 0
di_code di.HardwareGate = 1
di_code di.LatchAndRetrigger = 2
di_code di.Synchronisation = 3
di_code di.Latch = 4

abbrev pub di_functions : List DiFunction
di_functions = di.Input ∷ di.HardwareGate ∷ di.LatchAndRetrigger ∷ di.Synchronisation ∷ di.Latch ∷ []

abbrev pub gate_code : GateFunction → ℕ
gate_code gate.Cancel = 0
gate_code gate.Interrupt = 1

abbrev pub gate_functions : List GateFunction
gate_functions = gate.Cancel ∷ gate.Interrupt ∷ []

abbrev pub synchronisation_code : Synchronisation → ℕ
synchronisation_code sync.Once = 0
synchronisation_code sync.Periodic = 1

abbrev pub synchronisations : List Synchronisation
synchronisations = sync.Once ∷ sync.Periodic ∷ []

abbrev pub behaviour_code : Behaviour → ℕ
behaviour_code behaviour.FollowsBit = 0
behaviour_code behaviour.OnAtOrAbove = 1
behaviour_code behaviour.OnAtOrBelow = 2
behaviour_code behaviour.Pulse = 3

abbrev pub behaviours : List Behaviour
behaviours = behaviour.FollowsBit ∷ behaviour.OnAtOrAbove ∷ behaviour.OnAtOrBelow ∷ behaviour.Pulse ∷ []

-- the first of some values that has this code
abbrev pub decoded : {V : Type 0} → (V → ℕ) → List V → ℕ → Option V
decoded code vs c = find (λ v. c == code v) vs

-- a value of one byte: its code
unfoldable pub coded : {V : Type 0} → (V → ℕ) → List V → List ℕ → Option V
coded code vs [] = None
coded code vs (c ∷ []) = decoded code vs c
coded code vs (c ∷ d ∷ more) = None

-- so each of these choices is read by its codes
abbrev pub mode_read : List ℕ → Option Mode
mode_read = coded mode_code modes

abbrev pub direction_read : List ℕ → Option MainDirection
direction_read = coded direction_code directions

abbrev pub evaluation_read : List ℕ → Option PickedEvaluation
evaluation_read = coded evaluation_code evaluations

abbrev pub flag_read : List ℕ → Option Bool
flag_read = coded flag_code flags

abbrev pub di_read : List ℕ → Option DiFunction
di_read = coded di_code di_functions

abbrev pub gate_read : List ℕ → Option GateFunction
gate_read = coded gate_code gate_functions

abbrev pub synchronisation_read : List ℕ → Option Synchronisation
synchronisation_read = coded synchronisation_code synchronisations

abbrev pub behaviour_read : List ℕ → Option Behaviour
behaviour_read = coded behaviour_code behaviours

-- a signed number in two's complement, highest byte first
abbrev pub number : ℕ → ℕ → ℕ → ℕ → ℤ
number a b c d = to_z w32 (a * 16777216 + b * 65536 + c * 256 + d)

-- it is read from four bytes
abbrev pub number_read : List ℕ → Option ℤ
number_read [] = None
number_read (a ∷ []) = None
number_read (a ∷ b ∷ []) = None
number_read (a ∷ b ∷ c ∷ []) = None
number_read (a ∷ b ∷ c ∷ d ∷ []) = Some (number a b c d)
number_read (a ∷ b ∷ c ∷ d ∷ e ∷ more) = None

-- and written as four
abbrev pub number_written : ℤ → List ℕ
number_written z = (of_z w32 z / 16777216 % 256) ∷ (of_z w32 z / 65536 % 256) ∷ (of_z w32 z / 256 % 256) ∷ (of_z w32 z % 256) ∷ []

-- an end value is 2 to HIGH
abbrev pub end_valued : Option ℤ → Option End
end_valued None = None
end_valued (Some z) = cond (end_fits z) (Some (record { 0 = z })) None

-- and read as a number in that range
abbrev pub end_read : List ℕ → Option End
end_read bytes = end_valued (number_read bytes)

-- a duration is 1 to 250
abbrev pub duration_fits : ℕ → Bool
duration_fits duration = nat_le 1 duration && nat_le duration 250

-- an output: behaviour, hysteresis, duration, comparison value
abbrev pub output : ℕ → ℕ → Option Behaviour → Option ℤ → Option Output
output hysteresis duration None comparison = None
output hysteresis duration (Some b) None = None
output hysteresis duration (Some b) (Some c) =
    cond (duration_fits duration) (Some (record { behaviour = b; hysteresis = hysteresis; duration = duration; comparison = c })) None

-- it is read from seven bytes
abbrev pub output_read : List ℕ → Option Output
output_read [] = None
output_read (b ∷ []) = None
output_read (b ∷ h ∷ []) = None
output_read (b ∷ h ∷ d ∷ comparison) = output h d (behaviour_read (b ∷ [])) (number_read comparison)

-- and written as seven
abbrev pub output_written : Output → List ℕ
output_written o = behaviour_code o.behaviour ∷ o.hysteresis ∷ o.duration ∷ number_written o.comparison
