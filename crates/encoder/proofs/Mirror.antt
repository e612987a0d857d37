-- The inversion stage over a rotary evaluation is rotary: with B inverted, place p shows the pair of place 3 − p.
use Rattle.std.specs.Prelude.{◌≡◌, ℤ, pos, ◌+ℤ◌, ◌-ℤ◌}
use Rattle.std.proofs.Common.{arith, rules}
use Rattle.std.proofs.lemmas.Int.{ints}
use Rattle.encoder.specs.Lines.{invert_b}
use Rattle.encoder.specs.Evaluations.{Answers, inverted}
use Rattle.encoder.specs.Places.{pair_at, StepLaw, inverted_height}

invert_at : (p : ℤ) → invert_b (pair_at p) ≡ pair_at (pos 3 -ℤ p)
invert_at p = search rules

-- a place and the next one, seen from the other side
near : (p : ℤ) → pos 3 -ℤ p ≡ (pos 2 -ℤ p) +ℤ pos 1
near p = omega (arith, ints)

far : (p : ℤ) → pos 3 -ℤ (p +ℤ pos 1) ≡ pos 2 -ℤ p
far p = omega (arith, ints)

pub mirrored : (answers : Answers) (height : ℤ → ℤ) → StepLaw answers height → StepLaw (inverted answers) (inverted_height height)
mirrored answers height law = record {
  forth = λ p. rw (invert_at p, invert_at (p +ℤ pos 1), near p, far p) (law.back (pos 2 -ℤ p));
  back = λ p. rw (invert_at p, invert_at (p +ℤ pos 1), near p, far p) (law.forth (pos 2 -ℤ p));
}
