use Rattle.std.proofs.Common.{◌≡◌, ℕ, ◌+◌, ◌≤◌, List, ◌++◌, length, take, drop, arith, append_assoc, length-append, ap, sym, ◌∙◌}
use Rattle.std.proofs.lemmas.Grind.{common_steps}
use Rattle.std.proofs.lemmas.List.{drop-drop}
use Rattle.std.proofs.lemmas.Slice.{take-put_mid, drop-put_mid}
use borrow.Rule.Slice.PartMut.{put_mid}
use Rattle.settings.specs.Fields.{overlaid}
use Rattle.settings.proofs.writer.put.Goals as goal

-- two parts that are written one behind the other are put as one
put_twice : (p q n m : ℕ) (bytes header value head tail : List ℕ) → head ≡ header → tail ≡ value → q ≡ p + n → n ≡ length header → m ≡ length value → p ≤ length bytes → put_mid q m (put_mid p n bytes head) tail ≡ overlaid p (header ++ value) bytes
put_twice p q n m bytes header value head tail h t at sized last room =
    let front : take q (put_mid p n bytes header) ≡ take p bytes ++ header = take-put_mid p n bytes header q (omega arith) (omega arith) in
    let end : q + m ≡ p + length (header ++ value) = simp length-append (omega arith) in
    let back : drop m (drop q (put_mid p n bytes header)) ≡ drop (length (header ++ value)) (drop p bytes) = drop-drop m q (put_mid p n bytes header) ∙ (drop-put_mid p n bytes header (q + m) (omega arith) (omega arith) (omega arith) ∙ (ap (λ k. drop k bytes) end ∙ sym (drop-drop (length (header ++ value)) p bytes))) in
    rw (h, t) (simp (front, back, append_assoc))

pub returns : goal.returns
returns g c =
    let head = c.copy_from_slice.ensures.after ∙ c.header.ensures in
    rw c.place-place.ensures (put_twice _ _ _ _ _ _ _ _ _ head c.write.ensures (omega arith) (omega arith) (omega arith) (grind (arith, common_steps)))
