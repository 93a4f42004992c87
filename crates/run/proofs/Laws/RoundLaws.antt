-- Laws of counting that goes round (02, 'Turns that go round'): it is the label order, turned; and after an act of the first holder the others
-- come first, in their order, and the actor last.
use Rattle.std.specs.Prelude.{ℕ, zero, suc, ◌+◌, ◌-◌, ◌<◌, ◌≤◌, min, ◌≡◌, Bool, true, false, get_or, take, drop, set, ltb}
use native.Mathlib.Omega.{arith}
use Rattle.std.proofs.Math.Path.{refl, ap, sym}
use Rattle.std.proofs.Common.{◌∙◌, length-take, length-drop, take-suc-set, drop-set-lt, drop-drop, take-add, take-take, length-take-le, get_or-append-add, ltb-true, ltb-false}
use mathlib.Core.List.{List, [], ◌∷◌, ◌++◌, append-nil, append_assoc}
use Rattle.std.proofs.Math.ListN.{length, length-append, get_or-append}
use Rattle.std.proofs.Math.Seq.{take-nil}
use Rattle.std.proofs.lemmas.List.{take-append-le, drop-append-le}
use Rattle.run.specs.Turns.{labels_from, round_from}

-- Labels of lists in a row ---------------------------------------------------------

pub labels_append : (l : ℕ) (fs gs : List Bool) → labels_from l (fs ++ gs) ≡ labels_from l fs ++ labels_from (l + length fs) gs
unfolding labels_from
labels_append l [] gs = let z : l ≡ l + 0 = omega arith in ap (λ (x : ℕ). labels_from x gs) z
labels_append l (true ∷ fs) gs =
    let z : suc l + length fs ≡ l + suc (length fs) = omega arith in
    ap {B = List ℕ} (λ r. l ∷ r) (labels_append (suc l) fs gs ∙ ap (λ (x : ℕ). labels_from (suc l) fs ++ labels_from x gs) z)
labels_append l (false ∷ fs) gs =
    let z : suc l + length fs ≡ l + suc (length fs) = omega arith in
    labels_append (suc l) fs gs ∙ ap (λ (x : ℕ). labels_from (suc l) fs ++ labels_from x gs) z

-- all labels are those before s and those from s on
pub labels_split : (s l : ℕ) (fs : List Bool) → labels_from l fs ≡ labels_from l (take s fs) ++ labels_from (l + s) (drop s fs)
unfolding labels_from
labels_split zero l fs = let z : l ≡ l + 0 = omega arith in ap (λ (x : ℕ). labels_from x fs) z
labels_split (suc s) l [] = refl
labels_split (suc s) l (true ∷ fs) =
    let z : suc l + s ≡ l + suc s = omega arith in
    ap {B = List ℕ} (λ r. l ∷ r) (labels_split s (suc l) fs ∙ ap (λ (x : ℕ). labels_from (suc l) (take s fs) ++ labels_from x (drop s fs)) z)
labels_split (suc s) l (false ∷ fs) =
    let z : suc l + s ≡ l + suc s = omega arith in
    labels_split s (suc l) fs ∙ ap (λ (x : ℕ). labels_from (suc l) (take s fs) ++ labels_from x (drop s fs)) z

-- The same labels ------------------------------------------------------------------

-- where two lists stand in the other order, each element has its place
swapped : (xs ys : List ℕ) (i : ℕ) → i < length (xs ++ ys) → (j : ℕ) × (j < length (ys ++ xs)) × (get_or (xs ++ ys) i 0 ≡ get_or (ys ++ xs) j 0)
swapped xs ys i h = go (ltb i (length xs)) refl
  where
    m : length (xs ++ ys) ≡ length xs + length ys
    m = length-append xs ys

    n : length (ys ++ xs) ≡ length ys + length xs
    n = length-append ys xs

    go : (t : Bool) → ltb i (length xs) ≡ t → (j : ℕ) × (j < length (ys ++ xs)) × (get_or (xs ++ ys) i 0 ≡ get_or (ys ++ xs) j 0)
    go true e =
        let b : i < length xs = ltb-true i (length xs) e in
        (length ys + i, omega (arith, n), get_or-append xs ys 0 i b ∙ sym (get_or-append-add ys xs i 0))
    go false e =
        let b : length xs ≤ i = ltb-false i (length xs) e in
        let k : length xs + (i - length xs) ≡ i = omega arith in
        let w : i - length xs < length ys = omega (arith, m) in (
          i - length xs,
          omega (arith, n),
          ap (λ (x : ℕ). get_or (xs ++ ys) x 0) (sym k) ∙ get_or-append-add xs ys (i - length xs) 0 ∙ sym (get_or-append ys xs 0 (i - length xs) w),
        )

module _ (s : ℕ) (fs : List Bool) where
  labels_two : labels_from 0 fs ≡ labels_from 0 (take s fs) ++ labels_from s (drop s fs)
  labels_two = let z : 0 + s ≡ s = omega arith in labels_split s 0 fs ∙ ap (λ (x : ℕ). labels_from 0 (take s fs) ++ labels_from x (drop s fs)) z

  -- as many labels are counted,
  pub round_length : length (round_from s fs) ≡ length (labels_from 0 fs)
  unfolding round_from
  round_length =
      rw labels_two
      (omega (
        arith,
        length-append (labels_from 0 (take s fs)) (labels_from s (drop s fs)),
        length-append (labels_from s (drop s fs)) (labels_from 0 (take s fs)),
      ))

  -- each has a place in label order,
  pub round_place : (i : ℕ) → i < length (round_from s fs)
      → (j : ℕ) × (j < length (labels_from 0 fs)) × (get_or (round_from s fs) i 0 ≡ get_or (labels_from 0 fs) j 0)
  unfolding round_from
  round_place i h = rw labels_two (swapped (labels_from s (drop s fs)) (labels_from 0 (take s fs)) i h)

  -- and each in label order one here
  pub place_round : (j : ℕ) → j < length (labels_from 0 fs)
      → (i : ℕ) × (i < length (round_from s fs)) × (get_or (labels_from 0 fs) j 0 ≡ get_or (round_from s fs) i 0)
  unfolding round_from
  place_round j h = rw labels_two (swapped (labels_from 0 (take s fs)) (labels_from s (drop s fs)) j (rw labels_two at h))

-- The first of them ----------------------------------------------------------------

-- before the first label stands nothing true, and the others are those after it
pub record First (l : ℕ) (fs : List Bool) (h : ℕ) (t : List ℕ) : Type 0 where
  pub place : ℕ
  pub is : h ≡ l + place
  pub within : place < length fs
  pub before : labels_from l (take place fs) ≡ []
  pub after : t ≡ labels_from (suc h) (drop (suc place) fs)

pub first : (l : ℕ) (fs : List Bool) {h : ℕ} {t : List ℕ} → labels_from l fs ≡ h ∷ t → First l fs h t
unfolding labels_from
first l [] e = let z : ◌≡◌ {A = ℕ} 0 1 = cc in absurd (omega arith)
first l (true ∷ fs) {h} {t} e =
    let q : l ≡ h = cc in
    let r : labels_from (suc l) fs ≡ t = cc in
    record { place = 0; is = omega arith; within = omega arith; before = refl; after = sym r ∙ ap (λ (x : ℕ). labels_from (suc x) fs) q }
first l (false ∷ fs) e =
    let f = first (suc l) fs e in
    let a = f.is in
    let b = f.within in
    record { place = suc f.place; is = omega arith; within = omega arith; before = f.before; after = f.after }

-- what comes after k: up to s, and from s on
take_drop : (k s : ℕ) (fs : List Bool) → k ≤ s → drop k (take s fs) ≡ take (s - k) (drop k fs)
take_drop zero s fs h = let z : s ≡ s - 0 = omega arith in ap (λ (x : ℕ). take x fs) z
take_drop (suc k) zero fs h = absurd (omega arith)
take_drop (suc k) (suc s) [] h = sym (take-nil (suc s - suc k))
take_drop (suc k) (suc s) (f ∷ fs) h =
    let z : s - k ≡ suc s - suc k = omega arith in take_drop k s fs (omega arith) ∙ ap (λ (x : ℕ). take x (drop k fs)) z

dropped : (k s : ℕ) (fs : List Bool) → k ≤ s → labels_from k (drop k fs) ≡ labels_from k (drop k (take s fs)) ++ labels_from s (drop s fs)
dropped k s fs h =
    let z : k + (s - k) ≡ s = omega arith in
    labels_split (s - k) k (drop k fs)
    ∙ ap (λ (r : List Bool). labels_from k r ++ labels_from (k + (s - k)) (drop (s - k) (drop k fs))) (sym (take_drop k s fs h))
    ∙ ap (λ (r : List Bool). labels_from k (drop k (take s fs)) ++ labels_from (k + (s - k)) r) (drop-drop (s - k) k fs)
    ∙ ap (λ (x : ℕ). labels_from k (drop k (take s fs)) ++ labels_from x (drop x fs)) z

-- an actor at the end of the round, where it has commands left
unfoldable pub kept : Bool → ℕ → List ℕ
kept true h = h ∷ []
kept false h = []

-- After an act --------------------------------------------------------------------

one_label : (l : ℕ) (b : Bool) → labels_from l (b ∷ []) ≡ kept b l
unfolding labels_from kept
one_label l true = refl
one_label l false = refl

-- with b at label h: those after h, those before it, and h where b is true
pub round_at : (fs : List Bool) (h : ℕ) (b : Bool) → h < length fs
    → round_from (suc h) (set fs h b) ≡ labels_from (suc h) (drop (suc h) fs) ++ (labels_from 0 (take h fs) ++ kept b h)
unfolding round_from
round_at fs h b w =
    let t : length (take h fs) ≡ h = omega (arith, length-take h fs) in
    let z : 0 + length (take h fs) ≡ h = omega arith in
    let q : labels_from 0 (take (suc h) (set fs h b)) ≡ labels_from 0 (take h fs) ++ kept b h =
    ap (labels_from 0) (take-suc-set fs h b w) ∙ labels_append 0 (take h fs) (b ∷ []) ∙ ap (λ (x : ℕ). labels_from 0 (take h fs) ++ labels_from x (b ∷ [])) z
    ∙ ap (λ (r : List ℕ). labels_from 0 (take h fs) ++ r) (one_label h b) in
    let d : drop (suc h) (set fs h b) ≡ drop (suc h) fs = drop-set-lt (suc h) fs h b (omega arith) in
    ap (λ (r : List Bool). labels_from (suc h) r ++ labels_from 0 (take (suc h) (set fs h b))) d
    ∙ ap (λ (r : List ℕ). labels_from (suc h) (drop (suc h) fs) ++ r) q

module _ (s : ℕ) (fs : List Bool) (b : Bool) where
  -- the first holder stands at s or after it
  from_on : {h : ℕ} {t : List ℕ} → labels_from s (drop s fs) ≡ h ∷ t
      → (h < length fs) × (round_from (suc h) (set fs h b) ≡ (t ++ labels_from 0 (take s fs)) ++ kept b h)
  from_on {h} {t} e =
      let f = first s (drop s fs) e in
      let k = f.place in
      let a : h ≡ s + k = f.is in
      let w : k < length (drop s fs) = f.within in
      let n : length (drop s fs) ≡ length fs - s = length-drop s fs in
      let i : h < length fs = omega arith in
      let u : 0 + length (take s fs) ≡ s = omega (arith, length-take-le s fs (omega arith)) in
      let z : s + suc k ≡ suc h = omega arith in
      let g : t ≡ labels_from (suc h) (drop (suc h) fs) =
      f.after ∙ ap (labels_from (suc h)) (drop-drop (suc k) s fs ∙ ap (λ (x : ℕ). drop x fs) z) in
      let c : labels_from 0 (take h fs) ≡ labels_from 0 (take s fs) =
      ap (λ (x : ℕ). labels_from 0 (take x fs)) a ∙ ap (labels_from 0) (take-add s k fs) ∙ labels_append 0 (take s fs) (take k (drop s fs))
      ∙ ap (λ (x : ℕ). labels_from 0 (take s fs) ++ labels_from x (take k (drop s fs))) u
      ∙ ap (λ (r : List ℕ). labels_from 0 (take s fs) ++ r) f.before ∙ append-nil (labels_from 0 (take s fs)) in (
        i,
        round_at fs h b i ∙ ap (λ (r : List ℕ). r ++ (labels_from 0 (take h fs) ++ kept b h)) (sym g)
            ∙ ap (λ (r : List ℕ). t ++ (r ++ kept b h)) c
            ∙ sym (append_assoc t (labels_from 0 (take s fs)) (kept b h)),
      )

  -- nobody holds from s on, and the first stands before s
  past_highest : {h : ℕ} {t : List ℕ} → labels_from s (drop s fs) ≡ [] → labels_from 0 (take s fs) ≡ h ∷ t
      → (h < length fs) × (round_from (suc h) (set fs h b) ≡ t ++ kept b h)
  past_highest {h} {t} o e =
      let f = first 0 (take s fs) e in
      let a : h ≡ 0 + f.place = f.is in
      let w : f.place < length (take s fs) = f.within in
      let n : length (take s fs) ≡ min s (length fs) = length-take s fs in
      let i : h < length fs = omega arith in
      let j : h < s = omega arith in
      let p : f.place ≡ h = omega arith in
      let c : labels_from 0 (take h fs) ≡ [] =
      ap (labels_from 0) (sym (take-take h s fs (omega arith))) ∙ ap (λ (x : ℕ). labels_from 0 (take x (take s fs))) (sym p) ∙ f.before in
      let g : labels_from (suc h) (drop (suc h) fs) ≡ t =
      after_split h j ∙ ap (λ (r : List ℕ). labels_from (suc h) (drop (suc h) (take s fs)) ++ r) o
      ∙ append-nil (labels_from (suc h) (drop (suc h) (take s fs)))
      ∙ ap (λ (x : ℕ). labels_from (suc h) (drop (suc x) (take s fs))) (sym p) ∙ sym f.after in (
        i,
        round_at fs h b i ∙ ap (λ (r : List ℕ). r ++ (labels_from 0 (take h fs) ++ kept b h)) g
            ∙ ap (λ (r : List ℕ). t ++ (r ++ kept b h)) c,
      )
    where
      after_split : (h : ℕ) → h < s
          → labels_from (suc h) (drop (suc h) fs) ≡ labels_from (suc h) (drop (suc h) (take s fs)) ++ labels_from s (drop s fs)
      after_split h j = dropped (suc h) s fs (omega arith)

  -- after an act of the first holder: the others in their order, then the actor, where it has commands left
  pub round_after : {h : ℕ} {hs : List ℕ} → round_from s fs ≡ h ∷ hs
      → (h < length fs) × (round_from (suc h) (set fs h b) ≡ hs ++ kept b h)
  unfolding round_from
  round_after {h} {hs} e = go (labels_from s (drop s fs)) refl
    where
      go : (r : List ℕ) → labels_from s (drop s fs) ≡ r → (h < length fs) × (round_from (suc h) (set fs h b) ≡ hs ++ kept b h)
      go [] q = past_highest q (sym (ap (λ (r : List ℕ). r ++ labels_from 0 (take s fs)) q) ∙ e)
      go (x ∷ t) q =
          let v : (x ∷ t) ++ labels_from 0 (take s fs) ≡ h ∷ hs = sym (ap (λ (r : List ℕ). r ++ labels_from 0 (take s fs)) q) ∙ e in
          let y : x ≡ h = cc in
          let u : t ++ labels_from 0 (take s fs) ≡ hs = cc in
          let (i, m) = from_on (q ∙ ap (λ (n : ℕ). n ∷ t) y) in
          (i, m ∙ ap (λ (r : List ℕ). r ++ kept b h) u)

-- an instance more that holds nothing is not counted
pub round_idle : (s : ℕ) (fs : List Bool) → s ≤ length fs → round_from s (fs ++ false ∷ []) ≡ round_from s fs
unfolding round_from labels_from
round_idle s fs h =
    ap (λ (gs : List Bool). labels_from s gs ++ labels_from 0 (take s (fs ++ false ∷ []))) (drop-append-le s fs (false ∷ []) h)
    ∙ ap (λ (gs : List Bool). labels_from s (drop s fs ++ false ∷ []) ++ labels_from 0 gs) (take-append-le s fs (false ∷ []) h)
    ∙ ap (λ (ls : List ℕ). ls ++ labels_from 0 (take s fs)) (labels_append s (drop s fs) (false ∷ []) ∙ append-nil (labels_from s (drop s fs)))
