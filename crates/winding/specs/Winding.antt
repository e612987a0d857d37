-- What one sample does to a winding: the counter takes the pulse, and the tally notes the sample.
use Rattle.std.specs.Prelude.{ℕ, ◌+◌, ◌^◌, Bool, cond, ◌&&◌, Some, None, Option, nat_lt}
use Rattle.counter.specs.declared.meaning.Meaning.{Meaning}
use Rattle.counter.specs.Counting.{up, down}
use Rattle.encoder.specs.declared.lines.Pair.{Pair}
use Rattle.encoder.specs.declared.evaluation.Pulse.{Pulse}
use Rattle.encoder.specs.declared.evaluation.Pulse.TheVariants.{Up, Down}
use Rattle.encoder.specs.Lines.{both_differ}
use Rattle.encoder.specs.Evaluations.{Answers}
use Rattle.winding.specs.declared.tally.Tally.{Tally}
use Rattle.winding.specs.declared.winding.Sample.{Sample}
use Rattle.winding.specs.declared.winding.Winding.{Winding}

-- the tally's five sums
pub record Sums : Type 0 where
  pub samples : ℕ
  pub up : ℕ
  pub down : ℕ
  pub doubles : ℕ
  pub elapsed : ℕ

-- the sums that a tally holds, and those of a new one
abbrev pub sums_of : Tally → Sums
sums_of t = record { samples = t.samples; up = t.up; down = t.down; doubles = t.doubles; elapsed = t.elapsed }

abbrev pub no_sums : Sums
no_sums = record { samples = 0; up = 0; down = 0; doubles = 0; elapsed = 0 }

-- an answer counts as one pulse up, one down, or none
abbrev ups : Option Pulse → ℕ
ups (Some Up) = 1
ups (Some Down) = 0
ups None = 0

abbrev downs : Option Pulse → ℕ
downs (Some Up) = 0
downs (Some Down) = 1
downs None = 0

-- one sample more: its pulse, whether both lines changed, and its time
abbrev pub noted : Option Pulse → Bool → ℕ → Sums → Sums
noted answer both time s = record { samples = s.samples + 1; up = s.up + ups answer; down = s.down + downs answer; doubles = s.doubles + cond both 1 0; elapsed = s.elapsed + time }

-- the sums, of 64 bits each, have room for one sample more
abbrev pub has_room : Sums → ℕ → Bool
has_room s time = nat_lt (s.samples + 1) (2 ^ 64) && nat_lt (s.elapsed + time) (2 ^ 64)

-- a winding as its contracts see it
pub record State : Type 0 where
  pub counter : Meaning
  pub pair : Pair
  pub sums : Sums

-- what a winding is to its contracts: its counter only by its meaning
abbrev pub state_of : {E C : Type 0} → (C → Meaning) → Winding E C → State
state_of means w = record { counter = means w.counter; pair = w.pair; sums = sums_of w.tally }

-- the counter after an answer
abbrev counted : Option Pulse → Meaning → Meaning
counted (Some Up) m = up m
counted (Some Down) m = down m
counted None m = m

-- one sample: its pulse is counted, its pair is kept for the next, and the tally notes it
abbrev pub wound : Answers → Sample → State → State
wound answers s w = record {
  counter = counted (answers w.pair s.levels.pair) w.counter;
  pair = s.levels.pair;
  sums = noted (answers w.pair s.levels.pair) (both_differ w.pair s.levels.pair) s.elapsed w.sums;
}
