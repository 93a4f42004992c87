-- One list copied into another (02 §14).
use Rattle.std.specs.Prelude.{ℕ, suc, ◌+◌, ◌-◌, ◌<◌, ◌≤◌, ◌≡◌, List, [], ◌∷◌, ◌++◌, length, get_or, set, take, drop}
use Rattle.std.proofs.Common.{append-nil, drop_of_length-le, arith, add-one, add-zero, add-suc, suc-add, append_assoc, drop-drop, sym, ap, ◌∙◌, length-drop, length-take-le, take-suc}
use Rattle.std.proofs.lemmas.List.Edits.{sets, sets-eq}
use borrow.Rule.Slice.PartMut.{put_mid}
use Rattle.types.proofs.Laws.ListLaws.{sets_whole}

-- `sets_append` for values of any type
sets_any : {A : Type 0} (l : List A) (i : ℕ) (xs ys : List A) → sets l i (xs ++ ys) ≡ sets (sets l i xs) (i + length xs) ys
sets_any l i [] ys = rw add-zero
sets_any l i (x ∷ xs) ys = rw (add-suc, ← suc-add) (sets_any (set l i x) (suc i) xs ys)

-- of any values, the next of which is read beside a value that stands for none
pub turn_copied : {A : Type 0} (d : List A) (at : ℕ) (s : List A) (i : ℕ) (z : A) → i < length s → set (sets d at (take i s)) (at + i) (get_or s i z) ≡ sets d at (take (i + 1) s)
turn_copied d at s i z h =
    let e : length (take i s) ≡ i = length-take-le i s (omega (arith, h)) in
    let next : take i s ++ get_or s i z ∷ [] ≡ take (i + 1) s = rw (add-one, take-suc s i z h) in
    ap (λ n. set (sets d at (take i s)) (at + n) (get_or s i z)) (sym e)
    ∙ sym (sets_any d at (take i s) (get_or s i z ∷ []))
    ∙ ap (sets d at) next

pub turn_read : {A : Type 0} (d s : List A) (i : ℕ) (z : A) → i < length s → set (sets d 0 (take i s)) i (get_or s i z) ≡ sets d 0 (take (i + 1) s)
turn_read d s i z h =
    let here : i ≡ 0 + i = omega arith in
    ap (λ j. set (sets d 0 (take i s)) j (get_or s i z)) here ∙ turn_copied d 0 s i z h

pub copy_turn : (d : List ℕ) (at : ℕ) (s : List ℕ) (i : ℕ) → i < length s → set (sets d at (take i s)) (at + i) (get_or s i 0) ≡ sets d at (take (i + 1) s)
copy_turn d at s i h = turn_copied d at s i 0 h

-- a part of a list, copied whole
pub part_copied : (d s : List ℕ) (i n : ℕ) → length d ≡ n → i + n ≤ length s → sets d 0 (take (i + n - i) (drop i s)) ≡ take n (drop i s)
part_copied d s i n e h =
    let k : i + n - i ≡ n = omega arith in
    let w : length (take n (drop i s)) ≡ n = length-take-le n (drop i s) (omega (arith, length-drop i s, h)) in
    rw k (sets_whole d (take n (drop i s)) (w ∙ sym e))

-- a part of a list of any values, copied into one as long, value by value
pub part_read : {A : Type 0} (d s : List A) (n i k : ℕ) → length d ≡ n → i ≡ n → k + n ≤ length s → sets d 0 (take i (drop k s)) ≡ take n (drop k s)
part_read d s n i k e j b =
    let w : length (take n (drop k s)) ≡ n = length-take-le n (drop k s) (omega (arith, length-drop k s, b)) in
    rw j (sets-eq (take n (drop k s)) d 0 (omega (arith, w, e)) ∙ ap (λ r. take n (drop k s) ++ r) (drop_of_length-le d {i = 0 + length (take n (drop k s))} (omega (arith, w, e))) ∙ append-nil (take n (drop k s)))

-- a list that is copied into its part
pub written_mid : {A : Type 0} (d s u : List A) (k : ℕ) → k + length s ≤ length d → u ≡ s → put_mid k (k + length s - k) d u ≡ sets d k s
written_mid d s u k h e =
    let f : k + length s - k ≡ length s = omega arith in
    rw (e, f, drop-drop) (sym (sets-eq s d k h ∙ append_assoc (take k d) s _))
