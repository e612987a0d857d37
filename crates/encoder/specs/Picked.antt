-- What the evaluations that settings pick answer, with and without the inversion stage.
use Rattle.std.specs.Prelude.{Bool, true, false, ℤ}
use Rattle.encoder.specs.declared.inversion.Staged.{Staged}
use Rattle.encoder.specs.declared.inversion.Staged.TheVariants as staged
use Rattle.encoder.specs.declared.picked.PickedEvaluation.{PickedEvaluation}
use Rattle.encoder.specs.declared.picked.PickedEvaluation.TheVariants.{PulseDirection, Single, Double, Quadruple}
use Rattle.encoder.specs.Evaluations.{Answers, Silent, pulse_direction, single, double, quadruple, inverted, inverted_silent}
use Rattle.encoder.specs.Places.{inverted_height}

-- each case answers as its evaluation
abbrev pub picked_answers : PickedEvaluation → Answers
picked_answers PulseDirection = pulse_direction
picked_answers Single = single
picked_answers Double = double
picked_answers Quadruple = quadruple

-- the evaluation with the stage before it, or without
abbrev pub with_stage : {E : Type 0} → Bool → E → Staged E
with_stage true e = staged.Inverted (record { inner = e })
with_stage false e = staged.Direct e

-- what it answers, and its height where the evaluation has one
abbrev pub staged_answers : {E : Type 0} → (E → Answers) → Staged E → Answers
staged_answers answers (staged.Direct e) = answers e
staged_answers answers (staged.Inverted s) = inverted (answers s.inner)

abbrev pub staged_height : {E : Type 0} → (E → ℤ → ℤ) → Staged E → ℤ → ℤ
staged_height height (staged.Direct e) = height e
staged_height height (staged.Inverted s) = inverted_height (height s.inner)

-- with the stage or without, it is silent where the evaluation is
pub staged_silent : {E : Type 0} (answers : E → Answers) → ((e : E) → Silent (answers e)) → (s : Staged E) → Silent (staged_answers answers s)
staged_silent answers silent (staged.Direct e) = silent e
staged_silent answers silent (staged.Inverted s) = inverted_silent (answers s.inner) (silent s.inner)
