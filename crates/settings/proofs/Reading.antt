-- Whatever was read stood there as it is written.
use Rattle.std.proofs.Common.{◌≡◌, ℕ, ◌+◌, ◌*◌, ◌/◌, ◌%◌, ◌<◌, Bool, true, false, cond, not, eqb, ltb, List, [], ◌∷◌, ◌++◌, length, take, drop, Some, None, Ok, Err, Option, Result, refl, ap, ◌∙◌, subst, arith, eqb-true}
use Rattle.std.specs.List.{AllByRecursion as All}
use Rattle.std.proofs.lemmas.List.{take-append-drop, take_rest}
use Rattle.std.proofs.lemmas.Bool.Decides.{nat_tests}
use Rattle.refusal.specs.declared.Refusal.{Refusal}
use Rattle.refusal.specs.declared.Reason.TheVariants.{UnexpectedTag, WrongLength, ValueCut}
use Rattle.refusal.specs.Refusals.{refusal}
use Rattle.settings.specs.declared.field.Field.{Field}
use Rattle.settings.specs.Fields.{tag_of, size_of, place_of, written}
use Rattle.settings.specs.Rule.{◌and_then◌, Taken, behind, cut, valued}
use Rattle.settings.specs.Record.{field, ending}
use Rattle.settings.proofs.Values.{Byte}

-- a field that was cut off stood there as it is written
cut_by : (f : Field) (tag high low : ℕ) (xs : List ℕ) (t : Taken (List ℕ)) (p q r : Bool) → eqb tag (tag_of f) ≡ p → eqb (high * 256 + low) (size_of f) ≡ q → ltb (length xs) (size_of f) ≡ r → low < 256 → cond (not p) (Err (refusal UnexpectedTag (place_of f))) (cond (not q) (Err (refusal WrongLength (place_of f))) (cond r (Err (refusal ValueCut (place_of f))) (Ok (record { value = take (size_of f) xs; rest = drop (size_of f) xs })))) ≡ Ok t → tag ∷ high ∷ low ∷ xs ≡ written f t.value ++ t.rest
cut_by f tag high low xs t false q r hp hq hr byte e = cc
cut_by f tag high low xs t true false r hp hq hr byte e = cc
cut_by f tag high low xs t true true true hp hq hr byte e = cc
cut_by f tag high low xs t true true false hp hq hr byte e =
    let size : high * 256 + low ≡ size_of f = eqb-true (high * 256 + low) (size_of f) hq in
    let tagged : tag ≡ tag_of f = eqb-true tag (tag_of f) hp in
    let upper : high ≡ size_of f / 256 = omega arith in
    let lower : low ≡ size_of f % 256 = omega arith in
    let parts : take (size_of f) xs ++ drop (size_of f) xs ≡ xs = take-append-drop (size_of f) xs in
    let value : t.value ≡ take (size_of f) xs = cc in
    let rest : t.rest ≡ drop (size_of f) xs = cc in
    let joined : t.value ++ t.rest ≡ xs = cc in
    cc

pub cut_own : (f : Field) (bytes : List ℕ) (t : Taken (List ℕ)) → All Byte bytes → cut f bytes ≡ Ok t → bytes ≡ written f t.value ++ t.rest
cut_own f [] t all e = cc
cut_own f (a ∷ []) t all e = cc
cut_own f (a ∷ b ∷ []) t all e = cc
cut_own f (a ∷ b ∷ c ∷ xs) t all e =
    let long : ltb (length (a ∷ b ∷ c ∷ xs)) 3 ≡ false = grind (arith, nat_tests) in
    let rest : behind (a ∷ b ∷ c ∷ xs) ≡ xs = take_rest (a ∷ b ∷ c ∷ xs) 3 in
    cut_by f a b c xs t (eqb a (tag_of f)) (eqb (b * 256 + c) (size_of f)) (ltb (length xs) (size_of f)) refl refl refl all.1.1.0 (simp (long, rest) at e)

-- the parts of a list of bytes are bytes
parted : (xs ys : List ℕ) → All Byte (xs ++ ys) → All Byte xs × All Byte ys
parted [] ys all = (tt, all)
parted (x ∷ xs) ys all = ((all.0, (parted xs ys all.1).0), (parted xs ys all.1).1)

-- a value is read only from the bytes that are written for it
abbrev pub Inverse : {V : Type 0} → (List ℕ → Option V) → (V → List ℕ) → Type 0
Inverse {V} reads writes = (bytes : List ℕ) (v : V) → All Byte bytes → reads bytes ≡ Some v → bytes ≡ writes v

-- what follows where a field stood as it is written, before what was read behind it
abbrev pub Behind : {V B : Type 0} → Field → (V → List ℕ) → (V → List ℕ → Result B Refusal) → List ℕ → B → Type 0 → Type 0
Behind {V} f writes next bytes b R = (v : V) (rest : List ℕ) → All Byte rest → next v rest ≡ Ok b → bytes ≡ written f (writes v) ++ rest → R

value_owns : {V B R : Type 0} (f : Field) (reads : List ℕ → Option V) (writes : V → List ℕ) (next : V → List ℕ → Result B Refusal) (bytes : List ℕ) (b : B) (t : Taken (List ℕ)) (v : Option V) → Inverse reads writes → All Byte bytes → bytes ≡ written f t.value ++ t.rest → reads t.value ≡ v → (valued f t.rest v and_then (λ t. next t.value t.rest)) ≡ Ok b → Behind f writes next bytes b R → R
value_owns f reads writes next bytes b t None inverse all stands is e then = absurd cc
value_owns f reads writes next bytes b t (Some v) inverse all stands is e then =
    let there : All Byte (written f t.value ++ t.rest) = subst (All Byte) stands all in
    let parts = parted t.value t.rest there.1.1.1 in
    then v t.rest parts.1 e (stands ∙ ap (λ x. written f x ++ t.rest) (inverse t.value v parts.0 is))

cut_owns : {V B R : Type 0} (f : Field) (reads : List ℕ → Option V) (writes : V → List ℕ) (next : V → List ℕ → Result B Refusal) (bytes : List ℕ) (b : B) (r : Result (Taken (List ℕ)) Refusal) → Inverse reads writes → All Byte bytes → cut f bytes ≡ r → ((r and_then (λ t. valued f t.rest (reads t.value))) and_then (λ t. next t.value t.rest)) ≡ Ok b → Behind f writes next bytes b R → R
cut_owns f reads writes next bytes b (Err refused) inverse all is e then = absurd cc
cut_owns f reads writes next bytes b (Ok t) inverse all is e then = value_owns f reads writes next bytes b t (reads t.value) inverse all (cut_own f bytes t all is) refl e then

-- so a field that was read stood there so
pub field_owns : {V B R : Type 0} {next : V → List ℕ → Result B Refusal} {b : B} (f : Field) (reads : List ℕ → Option V) (writes : V → List ℕ) → Inverse reads writes → (bytes : List ℕ) → All Byte bytes → field f reads next bytes ≡ Ok b → Behind f writes next bytes b R → R
field_owns {next = next} {b = b} f reads writes inverse bytes all e then = cut_owns f reads writes next bytes b (cut f bytes) inverse all refl e then

-- the end of a record
pub ended : {B : Type 0} (b : B) (bytes : List ℕ) (x : B) → ending b bytes ≡ Ok x → (x ≡ b) × (bytes ≡ [])
ended b [] x e = (cc, refl)
ended b (more ∷ bytes) x e = cc
