use Rattle.std.proofs.Common.{arith}
use Rattle.settings.proofs.RoundTrips.{has_counter}
use Rattle.settings.proofs.parameters.Parameters.counter.Goals as goal

-- choices that keep to everything have a counter
pub unwrap-requires : goal.unwrap-requires
unwrap-requires c = grind (arith, has_counter)
