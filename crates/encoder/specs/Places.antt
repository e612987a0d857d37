-- The places of a shaft, and what makes an evaluation rotary.
use Rattle.std.specs.Prelude.{◌≡◌, ℕ, zero, suc, true, false, ℤ, pos, ◌+ℤ◌, ◌-ℤ◌, unsigned_abs}
use Rattle.std.specs.Int.{int_div_euclid, int_rem_euclid}
use Rattle.encoder.specs.declared.lines.Pair.{Pair}
use Rattle.encoder.specs.Lines.{pair}
use Rattle.encoder.specs.Evaluations.{Answers, worth}

-- the pairs of one turn, A before B: 00, 10, 11, 01
abbrev in_turn : ℕ → Pair
in_turn zero = pair false false
in_turn (suc zero) = pair true false
in_turn (suc (suc zero)) = pair true true
in_turn (suc (suc (suc n))) = pair false true

-- a place is a whole number, and its remainder by 4 gives its pair
abbrev pub pair_at : ℤ → Pair
pair_at p = in_turn (unsigned_abs (int_rem_euclid p (pos 4)))

-- between neighbouring places a rotary evaluation answers the difference of their heights
pub record StepLaw (answers : Answers) (height : ℤ → ℤ) : Type 0 where
  pub forth : (p : ℤ) → worth (answers (pair_at p) (pair_at (p +ℤ pos 1))) ≡ height (p +ℤ pos 1) -ℤ height p
  pub back : (p : ℤ) → worth (answers (pair_at (p +ℤ pos 1)) (pair_at p)) ≡ height p -ℤ height (p +ℤ pos 1)

-- the heights of the three rotary evaluations, rounded down
abbrev pub single_height : ℤ → ℤ
single_height p = int_div_euclid (p +ℤ pos 3) (pos 4)

abbrev pub double_height : ℤ → ℤ
double_height p = int_div_euclid (p +ℤ pos 1) (pos 2)

abbrev pub quadruple_height : ℤ → ℤ
quadruple_height p = p

-- the height under the inversion stage
abbrev pub inverted_height : (ℤ → ℤ) → ℤ → ℤ
inverted_height height p = height (pos 3 -ℤ p)
