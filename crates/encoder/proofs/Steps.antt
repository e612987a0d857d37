-- Single and double evaluation answer the differences of their heights.
use Rattle.std.proofs.Common.{rules}
use Rattle.encoder.specs.Evaluations.{single, double}
use Rattle.encoder.specs.Places.{StepLaw, single_height, double_height}

pub single_steps : StepLaw single single_height
single_steps = record { forth = λ p. search rules; back = λ p. search rules }

pub double_steps : StepLaw double double_height
double_steps = record { forth = λ p. search rules; back = λ p. search rules }
