-- What an evaluation answers from an old and a new pair.
use Rattle.std.specs.Prelude.{◌≡◌, Bool, true, false, ℤ, pos, negsuc, Some, None, Option}
use Rattle.encoder.specs.declared.lines.Pair.{Pair}
use Rattle.encoder.specs.declared.evaluation.Pulse.{Pulse}
use Rattle.encoder.specs.declared.evaluation.Pulse.TheVariants.{Up, Down}
use Rattle.encoder.specs.Lines.{opposite, invert_b}

-- what happened from one pair to the next: A or B rose or fell while the other line stood at a level, or neither did alone,
-- since no line changed or both did
pub data Change : Type 0 where
  a_rises_at_b : Bool → Change
  a_falls_at_b : Bool → Change
  b_rises_at_a : Bool → Change
  b_falls_at_a : Bool → Change
  neither : Change

-- the change, by the levels of A before, B before, A after and B after
abbrev change_by : Bool → Bool → Bool → Bool → Change
change_by false false true false = a_rises_at_b false
change_by false true true true = a_rises_at_b true
change_by true false false false = a_falls_at_b false
change_by true true false true = a_falls_at_b true
change_by false false false true = b_rises_at_a false
change_by true false true true = b_rises_at_a true
change_by false true false false = b_falls_at_a false
change_by true true true false = b_falls_at_a true
change_by false false false false = neither
change_by false false true true = neither
change_by false true false true = neither
change_by false true true false = neither
change_by true false true false = neither
change_by true false false true = neither
change_by true true true true = neither
change_by true true false false = neither

-- the change from an old to a new pair
abbrev pub change : Pair → Pair → Change
change old new = change_by old.a old.b new.a new.b

-- all that an evaluation means: its answer to each old and new pair
abbrev pub Answers : Type 0
Answers = Pair → Pair → Option Pulse

-- A rising is up with B low and down with B high; all else is nothing
abbrev pulse_direction_at : Change → Option Pulse
pulse_direction_at (a_rises_at_b false) = Some Up
pulse_direction_at (a_rises_at_b true) = Some Down
pulse_direction_at (a_falls_at_b b) = None
pulse_direction_at (b_rises_at_a a) = None
pulse_direction_at (b_falls_at_a a) = None
pulse_direction_at neither = None

-- with B low, A rising is up and A falling is down; all else is nothing
abbrev single_at : Change → Option Pulse
single_at (a_rises_at_b false) = Some Up
single_at (a_rises_at_b true) = None
single_at (a_falls_at_b false) = Some Down
single_at (a_falls_at_b true) = None
single_at (b_rises_at_a a) = None
single_at (b_falls_at_a a) = None
single_at neither = None

-- as single, and with B high A falling is up and A rising is down
abbrev double_at : Change → Option Pulse
double_at (a_rises_at_b false) = Some Up
double_at (a_rises_at_b true) = Some Down
double_at (a_falls_at_b false) = Some Down
double_at (a_falls_at_b true) = Some Up
double_at (b_rises_at_a a) = None
double_at (b_falls_at_a a) = None
double_at neither = None

-- each step in the order 00, 10, 11, 01, 00 (A before B) is up, and each step back is down
abbrev quadruple_at : Change → Option Pulse
quadruple_at (a_rises_at_b false) = Some Up
quadruple_at (a_rises_at_b true) = Some Down
quadruple_at (a_falls_at_b false) = Some Down
quadruple_at (a_falls_at_b true) = Some Up
quadruple_at (b_rises_at_a false) = Some Down
quadruple_at (b_rises_at_a true) = Some Up
quadruple_at (b_falls_at_a false) = Some Up
quadruple_at (b_falls_at_a true) = Some Down
quadruple_at neither = None

-- what the four evaluations answer, by the change alone
abbrev pub pulse_direction : Answers
pulse_direction old new = pulse_direction_at (change old new)

abbrev pub single : Answers
single old new = single_at (change old new)

abbrev pub double : Answers
double old new = double_at (change old new)

abbrev pub quadruple : Answers
quadruple old new = quadruple_at (change old new)

-- the stage passes down both pairs with B inverted
abbrev pub inverted : Answers → Answers
inverted answers old new = answers (invert_b old) (invert_b new)

-- an evaluation answers nothing when no line changed, and nothing when both did
pub record Silent (answers : Answers) : Type 0 where
  pub unchanged : (p : Pair) → answers p p ≡ None
  pub both_changed : (p : Pair) → answers p (opposite p) ≡ None

-- so does the stage over it
pub inverted_silent : (answers : Answers) → Silent answers → Silent (inverted answers)
inverted_silent answers silent =
    record { unchanged = λ p. silent.unchanged (invert_b p); both_changed = λ p. silent.both_changed (invert_b p) }

-- what an answer is worth in pulses
abbrev pub worth : Option Pulse → ℤ
worth (Some Up) = pos 1
worth (Some Down) = negsuc 0
worth None = pos 0
