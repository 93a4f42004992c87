-- Parts of lent tables: rows between offsets, and regions that are filled from their ends, so that the last one stands in front.
use Rattle.std.specs.Prelude.{ℕ, zero, suc, ◌+◌, ◌-◌, ◌≤◌, ◌<◌, ◌≡◌, refl, List, [], ◌∷◌, map, length, get_or, set, take, drop}
use Rattle.std.proofs.Common.{arith, sym, ap, ◌∙◌, length-take, length-drop, lt-length-set, drop-cons, drop-drop, take-take, get_or-take, get_or-drop, get_or-set_same, drop-set-lt}
use Rattle.std.proofs.lemmas.List.{length-map, take-set-le, drop-set-add}
use Rattle.std.proofs.Math.Seq.{take-nil}
use Rattle.types.proofs.Laws.ListLaws.{cons_eq, map_drop, map_take}
use Rattle.resolve.specs.Checks.{part_of}
use Rattle.resolve.specs.Using.{last_of}
use Rattle.resolve.specs.Resolved.{cuts}

-- Rows -------------------------------------------------------------------------------------------

-- what is said of a part is that part of what is said
pub map_part : {A B : Type 0} (f : A → B) (l : List A) (a b : ℕ) → map f (part_of l a b) ≡ part_of (map f l) a b
map_part f l a b = map_take f (b - a) (drop a l) ∙ ap (take (b - a)) (map_drop f a l)

-- a row, by its number
pub cuts_at : {A : Type 0} (l : List A) (o : List ℕ) (k : ℕ) → suc k < length o → get_or (cuts l o) k [] ≡ part_of l (get_or o k 0) (get_or o (suc k) 0)
unfolding cuts
cuts_at l [] k h = absurd (omega arith)
cuts_at l (a ∷ []) k h = absurd (omega arith)
cuts_at l (a ∷ b ∷ o) zero h = refl
cuts_at l (a ∷ b ∷ o) (suc k) h = cuts_at l (b ∷ o) k (omega (arith, h))

-- what stands in a part; how long it is
pub part_at : (l : List ℕ) (a b n : ℕ) → n < b - a → get_or (part_of l a b) n 0 ≡ get_or l (a + n) 0
part_at l a b n h = get_or-take (b - a) (drop a l) n 0 h ∙ get_or-drop a l n 0

pub part_long : (l : List ℕ) (a b : ℕ) → b ≤ length l → length (part_of l a b) ≡ b - a
part_long l a b h = let m = length-take (b - a) (drop a l) in let n = length-drop a l in omega (arith, m, n, h)

pub mapped_long : {B : Type 0} (f : ℕ → B) (l : List ℕ) (a b : ℕ) → b ≤ length l → length (map f (part_of l a b)) ≡ b - a
mapped_long f l a b h = length-map (part_of l a b) f ∙ part_long l a b h

drop_take : (m k : ℕ) (l : List ℕ) → drop m (take k l) ≡ take (k - m) (drop m l)
drop_take zero k l = let e : k ≡ k - 0 = omega arith in ap (λ z. take z l) e
drop_take (suc m) zero l = let e : 0 ≡ 0 - suc m = omega arith in ap (λ z. take z (drop (suc m) l)) e
drop_take (suc m) (suc k) [] = sym (take-nil (suc k - suc m))
drop_take (suc m) (suc k) (x ∷ l) = let e : k - m ≡ suc k - suc m = omega arith in drop_take m k l ∙ ap (λ z. take z (drop m l)) e

-- a part of a part
pub part_part : (l : List ℕ) (p q a b : ℕ) → b ≤ q - p → part_of (part_of l p q) a b ≡ part_of l (p + a) (p + b)
part_part l p q a b h =
    let e : b - a ≡ (p + b) - (p + a) = omega arith in
    ap (take (b - a)) (drop_take a (q - p) (drop p l) ∙ ap (take ((q - p) - a)) (drop-drop a p l))
    ∙ take-take (b - a) ((q - p) - a) (drop (p + a) l) (omega (arith, h)) ∙ ap (λ z. take z (drop (p + a) l)) e

-- Regions ------------------------------------------------------------------------------------------

-- the n places before e
abbrev pub up_to : List ℕ → ℕ → ℕ → List ℕ
up_to l e n = part_of l (e - n) e

filled : (l : List ℕ) (i n a : ℕ) → i < length l → take (suc n) (drop i (set l i a)) ≡ a ∷ take n (drop (suc i) l)
filled l i n a h =
    ap (take (suc n))
    (drop-cons (set l i a) i a (lt-length-set l i a h) ∙ cons_eq (get_or-set_same l i a a h) (drop-set-lt (suc i) l i a (omega arith)))

-- one more in front
pub up_to_more : (l : List ℕ) (e n a : ℕ) → n < e → e ≤ length l → up_to (set l (e - (n + 1)) a) e (n + 1) ≡ a ∷ up_to l e n
up_to_more l e n a h k =
    let i : e - (e - (n + 1)) ≡ suc n = omega (arith, h) in
    let j : suc (e - (n + 1)) ≡ e - n = omega (arith, h) in
    let m : e - (e - n) ≡ n = omega (arith, h) in
    ap (λ z. take z (drop (e - (n + 1)) (set l (e - (n + 1)) a))) i ∙ filled l (e - (n + 1)) n a (omega (arith, h, k))
    ∙ ap (λ z. a ∷ take n (drop z l)) j ∙ ap (λ z. a ∷ take z (drop (e - n) l)) (sym m)

-- a part that does not hold the place stays
pub part_behind : (l : List ℕ) (i a c d : ℕ) → i < c → part_of (set l i a) c d ≡ part_of l c d
part_behind l i a c d h = ap (take (d - c)) (drop-set-lt c l i a h)

pub part_before : (l : List ℕ) (i a c d : ℕ) → c ≤ d → d ≤ i → part_of (set l i a) c d ≡ part_of l c d
part_before l i a c d h k =
    let j : i ≡ c + (i - c) = omega (arith, h, k) in
    ap (λ z. take (d - c) (drop c (set l z a))) j ∙ ap (take (d - c)) (drop-set-add c l (i - c) a)
    ∙ take-set-le (d - c) (drop c l) (i - c) a (omega (arith, h, k))

pub up_to_long : (l : List ℕ) (e n : ℕ) → n ≤ e → e ≤ length l → length (up_to l e n) ≡ n
up_to_long l e n h k = let b = part_long l (e - n) e k in omega (arith, b, h)

-- the last of a region are a region
pub drop_up_to : (l : List ℕ) (e n m : ℕ) → m ≤ n → n ≤ e → drop m (up_to l e n) ≡ up_to l e (n - m)
drop_up_to l e n m a b =
    let i : (e - n) + m ≡ e - (n - m) = omega (arith, a, b) in
    let j : (e - (e - n)) - m ≡ e - (e - (n - m)) = omega (arith, a, b) in
    drop_take m (e - (e - n)) (drop (e - n) l) ∙ ap (take ((e - (e - n)) - m)) (drop-drop m (e - n) l)
    ∙ ap (λ z. take ((e - (e - n)) - m) (drop z l)) i ∙ ap (λ z. take z (drop (e - (n - m)) l)) j

pub last_up_to : (l : List ℕ) (e n h : ℕ) → h ≤ n → n ≤ e → e ≤ length l → last_of h (up_to l e n) ≡ up_to l e h
unfolding last_of
last_up_to l e n h a b c =
    let i : n - (n - h) ≡ h = omega (arith, a) in
    ap (λ z. drop (z - h) (up_to l e n)) (up_to_long l e n b c) ∙ drop_up_to l e n (n - h) (omega arith) b ∙ ap (up_to l e) i

-- all of it, where more are asked for
pub last_all : {A : Type 0} (l : List A) (h : ℕ) → length l ≤ h → last_of h l ≡ l
unfolding last_of
last_all l h a = let i : length l - h ≡ 0 = omega (arith, a) in ap (λ z. drop z l) i
