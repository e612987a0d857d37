use Rattle.std.proofs.Common.{arith, length-take}
use Rattle.settings.proofs.RoundTrips.{record_back}
use Rattle.settings.proofs.parameters.Parameters.write.Goals as goal

pub copy_from_slice-requires : goal.copy_from_slice-requires
copy_from_slice-requires c = rw c.record_of.ensures (simp length-take (omega arith))

-- the head of the buffer is the record of these choices, and that reads back
pub returns-clause-back : goal.returns-clause-back
returns-clause-back c = rw (c.copy_from_slice.ensures.after, c.record_of.ensures, c.choices.ensures) (record_back c.args.self.now.choices c.args.self.now.kept)
