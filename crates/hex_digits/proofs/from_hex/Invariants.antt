use Rattle.std.proofs.Common.{◌≡◌, ◌≤◌, length, vec_items}
use Rattle.hex_digits.specs.Hex.{decoded}
use Rattle.hex_digits.proofs.Digits.{before}
use Rattle.hex_digits.proofs.from_hex.Given as goal

-- the bytes so far, before those of the digits that are left, are those of all digits
abbrev pub invariant-loop-rest : goal.invariant-loop-rest
invariant-loop-rest l = (before (vec_items l.bytes) (decoded l.rest) ≡ decoded l.digits) × (length l.rest ≤ length l.digits)

abbrev pub decreases-loop-rest : goal.decreases-loop-rest
decreases-loop-rest l = length l.rest
