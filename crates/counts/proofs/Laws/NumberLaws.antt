-- Laws of numbers of sequences (02 §14): a property has one number at most; none, one, and those parted by their first label.
use Rattle.std.specs.Prelude.{ℕ, ◌+◌, ◌≤◌, ◌≡◌, refl, ◌↔◌}
use native.Mathlib.Omega.{arith}
use Rattle.std.proofs.Math.Path.{sym, ap, subst}
use Rattle.std.proofs.Common.{◌∙◌}
use Rattle.std.proofs.Math.Logic.{⊎_elim}
use mathlib.Core.List.Memᴰ
use mathlib.Core.List.{List, [], ◌∷◌, ◌++◌, map, Memᴰ}
use Rattle.std.proofs.Math.ListN.{length, length-append, length-map}
use Rattle.counts.specs.Numbers.{Distinct, Number, sum}

-- Two lists without repeats -----------------------------------------------------------

module _ {A : Type 0} where
  -- where an element stands
  split : {x : A} (ys : List A) → Memᴰ x ys → (us : List A) × (vs : List A) × (ys ≡ us ++ x ∷ vs)
  split [] u = absurd (Memᴰ.not-nil u)
  split {x} (y ∷ ys) u =
      ⊎_elim (λ e. ([], ys, ap {B = List A} (λ z. z ∷ ys) (sym e)))
      (λ w. let (us, vs, e) = split ys w in (y ∷ us, vs, ap {B = List A} (λ z. y ∷ z) e)) (Memᴰ.cases_cons u)

  -- another one is in what is left
  without : (x y : A) (us vs : List A) → (y ≡ x → ⊥) → Memᴰ y (us ++ x ∷ vs) → Memᴰ y (us ++ vs)
  without x y us vs h u =
      ⊎_elim (λ w. Memᴰ.append_left vs w) (λ w. Memᴰ.append_right us (⊎_elim (λ e. absurd (h e)) (λ z. z) (Memᴰ.cases_cons w))) (Memᴰ.append_cases us u)

  -- a list without repeats is no longer than one that has all its elements
  fewer : (xs ys : List A) → Distinct xs → ((x : A) → Memᴰ x xs → Memᴰ x ys) → length xs ≤ length ys
  unfolding Distinct
  fewer [] ys d h = omega arith
  fewer (x ∷ xs) ys d h =
      let (us, vs, e) = split ys (h x (Memᴰ.head refl)) in
      let k =
      fewer xs (us ++ vs) d.1
      (λ y u. without x y us vs (λ q. d.0 (subst (λ z. Memᴰ z xs) q u)) (subst (λ z. Memᴰ y z) e (h y (Memᴰ.tail u)))) in
      omega (arith, k, ap length e, length-append us (x ∷ vs), length-append us vs)

  pub distinct_append : (xs ys : List A) → Distinct xs → Distinct ys → ((x : A) → Memᴰ x xs → Memᴰ x ys → ⊥) → Distinct (xs ++ ys)
  unfolding Distinct
  distinct_append [] ys d e h = e
  distinct_append (x ∷ xs) ys d e h = (
    λ u. ⊎_elim (λ w. d.0 w) (λ w. h x (Memᴰ.head refl) w) (Memᴰ.append_cases xs u),
    distinct_append xs ys d.1 e (λ y u w. h y (Memᴰ.tail u) w),
  )

pub distinct_map : {A B : Type 0} (f : A → B) → ((x y : A) → f x ≡ f y → x ≡ y) → (xs : List A) → Distinct xs → Distinct (map f xs)
unfolding Distinct
distinct_map f inj [] d = tt
distinct_map f inj (x ∷ xs) d = (
  λ u. let (y, w, e) = Memᴰ.of_map f xs u in d.0 (subst (λ z. Memᴰ z xs) (inj y x e) w),
  distinct_map f inj xs d.1,
)

-- Numbers -----------------------------------------------------------------------------

-- a property has one number of sequences
pub number_one : {P : List ℕ → Type 0} {m n : ℕ} → Number P m → Number P n → m ≡ n
number_one a b =
    let h = fewer a.all b.all a.once (λ x u. (b.each x).1 ((a.each x).0 u)) in
    let k = fewer b.all a.all b.once (λ x u. (a.each x).1 ((b.each x).0 u)) in
    omega (arith, h, k, a.many, b.many)

-- of two properties that are the same
pub number_same : {P Q : List ℕ → Type 0} {n : ℕ} → ((ls : List ℕ) → P ls ↔ Q ls) → Number P n → Number Q n
number_same h a = record {
  all = a.all;
  each = λ ls. (λ u. (h ls).0 ((a.each ls).0 u), λ q. (a.each ls).1 ((h ls).1 q));
  once = a.once;
  many = a.many;
}

pub number_none : {P : List ℕ → Type 0} → ((ls : List ℕ) → P ls → ⊥) → Number P 0
unfolding Distinct
number_none h = record { all = []; each = λ ls. (λ u. absurd (Memᴰ.not-nil u), λ q. absurd (h ls q)); once = tt; many = refl }

pub number_single : {P : List ℕ → Type 0} (ks : List ℕ) → P ks → ((ls : List ℕ) → P ls → ls ≡ ks) → Number P 1
unfolding Distinct
number_single {P} ks x h = record {
  all = ks ∷ [];
  each = λ ls. (
    λ u. ⊎_elim (λ e. subst P (sym e) x) (λ w. absurd (Memᴰ.not-nil w)) (Memᴰ.cases_cons u),
    λ q. Memᴰ.head (h ls q),
  );
  once = (λ u. Memᴰ.not-nil u, tt);
  many = refl;
}

-- a sequence with the property whose first label is one of these
pub record Begins (hs : List ℕ) (P : List ℕ → Type 0) (ls : List ℕ) : Type 0 where
  pub head : ℕ
  pub rest : List ℕ
  pub among : Memᴰ head hs
  pub parts : ls ≡ head ∷ rest
  pub has : P (head ∷ rest)

pub head_is : {a b : ℕ} {xs ys : List ℕ} → a ∷ xs ≡ b ∷ ys → a ≡ b
head_is e = cc

pub rest_is : {a b : ℕ} {xs ys : List ℕ} → a ∷ xs ≡ b ∷ ys → xs ≡ ys
rest_is e = cc

module _ (P : List ℕ → Type 0) (f : ℕ → ℕ) where
  -- those with the first label h, and those with one of the others
  module _ (h : ℕ) (hs : List ℕ) (fresh : Memᴰ h hs → ⊥) (a : Number (λ ks. P (h ∷ ks)) (f h)) (b : Number (Begins hs P) (sum f hs)) where
    firsts : List (List ℕ)
    firsts = map (λ ks. h ∷ ks) a.all

    into : (ls : List ℕ) → Memᴰ ls (firsts ++ b.all) → Begins (h ∷ hs) P ls
    unfolding firsts
    into ls u =
        ⊎_elim
        (λ w. let (ks, x, e) = Memᴰ.of_map (λ ks. h ∷ ks) a.all w in
        record { head = h; rest = ks; among = Memᴰ.head refl; parts = sym e; has = (a.each ks).0 x })
        (λ w. let x = (b.each ls).0 w in record { head = x.head; rest = x.rest; among = Memᴰ.tail x.among; parts = x.parts; has = x.has })
        (Memᴰ.append_cases firsts u)

    back : (ls : List ℕ) → Begins (h ∷ hs) P ls → Memᴰ ls (firsts ++ b.all)
    unfolding firsts
    back ls x =
        ⊎_elim
        (λ e.
        let y : P (h ∷ x.rest) = subst (λ k. P (k ∷ x.rest)) e x.has in
        let w = Memᴰ.map (λ ks. h ∷ ks) ((a.each x.rest).1 y) in
        Memᴰ.append_left b.all (subst (λ z. Memᴰ z firsts) (sym (x.parts ∙ ap {B = List ℕ} (λ k. k ∷ x.rest) e)) w))
        (λ w. Memᴰ.append_right firsts ((b.each ls).1 (record { head = x.head; rest = x.rest; among = w; parts = x.parts; has = x.has })))
        (Memᴰ.cases_cons x.among)

    both : Number (Begins (h ∷ hs) P) (f h + sum f hs)
    unfolding firsts
    both = record {
      all = firsts ++ b.all;
      each = λ ls. (into ls, back ls);
      once =
          distinct_append firsts b.all (distinct_map (λ ks. h ∷ ks) (λ x y e. rest_is e) a.all a.once) b.once
          (λ ls u w.
          let (ks, x, e) = Memᴰ.of_map (λ ks. h ∷ ks) a.all u in
          let y = (b.each ls).0 w in
          fresh (subst (λ z. Memᴰ z hs) (sym (head_is (e ∙ y.parts))) y.among));
      many = length-append firsts b.all ∙ omega (arith, length-map a.all (λ ks. h ∷ ks), a.many, b.many);
    }

  -- sequences parted by their first label are as many as their parts together
  pub number_begins : (hs : List ℕ) → Distinct hs → ((h : ℕ) → Memᴰ h hs → Number (λ ks. P (h ∷ ks)) (f h)) → Number (Begins hs P) (sum f hs)
  unfolding sum Distinct
  number_begins [] d g = number_none (λ ls x. Memᴰ.not-nil x.among)
  number_begins (h ∷ hs) d g = both h hs d.0 (g h (Memᴰ.head refl)) (number_begins hs d.1 (λ k u. g k (Memᴰ.tail u)))
