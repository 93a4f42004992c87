-- A search among the records of instances finds the holder that memory has (01, 'Table and turns'; 02, 'Turns that go round').
use Prim.Native.Nat.{ℕ, zero, suc, ◌+◌, ◌-◌, ◌%◌, ◌<◌, ◌≤◌}
use Rattle.std.specs.Prelude.{◌≡◌, Bool, set, take, replicate, eqb, ltb}
use Rattle.std.proofs.Math.Path.{refl, ap, sym}
use Rattle.std.proofs.Common.{◌∙◌, subst, length-set, length-drop, drop_of_length-le, get_or-set_same, get_or-set_other, take_all, eqb-true, ltb-true, ltb-false}
use Rattle.std.proofs.Math.Bool.{true, false}
use mathlib.Core.List.{List, [], ◌∷◌, ◌++◌, append-nil}
use Rattle.std.proofs.Math.Nat.{mod-lt}
use native.Mathlib.Omega.{arith}
use Rattle.std.proofs.Math.ListN.{length, get_or, drop}
use Rattle.std.proofs.lemmas.List.{length-replicate}
use Rattle.std.proofs.Math.Seq.{drop-cons}
use mir.Val.{bool_byte}
use Rattle.std.proofs.lemmas.Bool.{eqb-false}
use Rattle.types.specs.Limits.{max_instances}
use Rattle.layout.specs.Layout.{holds}
use Rattle.run.specs.Turns.{labels_from, round_from, chosen}
use Rattle.memory.specs.Choose.{holding, flags, picked}
use Rattle.run.proofs.Laws.RoundLaws.{kept}
use Rattle.memory.proofs.Laws.ChooseStands.{holding_round, flags_length, flags_at}
use Rattle.holders.specs.declared.Record.{Record}
use Rattle.holders.specs.Records.{idle, wrapped, search, Recorded, holder_in}
use Rattle.holders.proofs.RecordsWays.{wrapped_here, wrapped_past, search_here, search_past}

-- Flags ------------------------------------------------------------------------------

-- no more labels than flags
labels_few : (l : ℕ) (fs : List Bool) → length (labels_from l fs) ≤ length fs
unfolding labels_from
labels_few l [] = omega arith
labels_few l (true ∷ fs) = omega (arith, labels_few (suc l) fs)
labels_few l (false ∷ fs) = omega (arith, labels_few (suc l) fs)

-- the first of them
first_label : (b : Bool) (l : ℕ) (gs : List Bool) (rest : List ℕ) → labels_from l (b ∷ gs) ++ rest ≡ kept b l ++ (labels_from (suc l) gs ++ rest)
unfolding labels_from kept
first_label true l gs rest = refl
first_label false l gs rest = refl

-- the records of n instances say whether each holds commands, as fs does
module _ (n : ℕ) (rs : List Record) (fs : List Bool) (size : length fs ≡ n) (shown : (k : ℕ) → k < n → (get_or rs k idle).holds ≡ get_or fs k false) where
  -- one record looked at; `on` says of the search behind it what is to be said
  one_searched : (m l : ℕ) (ls : List ℕ) → l < n → ((r : ℕ) → r < length ls → search rs n m (suc l) r ≡ get_or ls r 0)
      → (b : Bool) → get_or fs l false ≡ b → (r : ℕ) → r < length (kept b l ++ ls) → search rs n (suc m) l r ≡ get_or (kept b l ++ ls) r 0
  unfolding kept
  one_searched m l ls low on b e r h = go b e r h
    where
      here : wrapped n l ≡ l
      here = wrapped_here n l low

      says : {b : Bool} → get_or fs l false ≡ b → bool_byte (get_or rs (wrapped n l) idle).holds ≡ bool_byte b
      says e = ap bool_byte (ap (λ (x : ℕ). (get_or rs x idle).holds) here ∙ shown l low ∙ e)

      past : (r d : ℕ) → bool_byte (get_or rs (wrapped n l) idle).holds ≡ d → d ≤ r → search rs n (suc m) l r ≡ search rs n m (suc l) (r - d)
      past r d q k =
          let w : wrapped n l + 1 ≡ suc l = omega (arith, here) in
          search_past rs n m l r (omega (arith, q))
          ∙ ap (λ (x : ℕ). search rs n m x (r - bool_byte (get_or rs (wrapped n l) idle).holds)) w ∙ ap (λ (x : ℕ). search rs n m (suc l) (r - x)) q

      go : (b : Bool) → get_or fs l false ≡ b → (r : ℕ) → r < length (kept b l ++ ls) → search rs n (suc m) l r ≡ get_or (kept b l ++ ls) r 0
      go true e zero h = let q : bool_byte (get_or rs (wrapped n l) idle).holds ≡ 1 = says e in search_here rs n m l 0 (omega (arith, q)) ∙ here
      go true e (suc r) h =
          let z : suc r - 1 ≡ r = omega arith in
          past (suc r) 1 (says e) (omega arith) ∙ ap (λ (x : ℕ). search rs n m (suc l) x) z ∙ on r (omega arith)
      go false e r h = let z : r - 0 ≡ r = omega arith in past r 0 (says e) (omega arith) ∙ ap (λ (x : ℕ). search rs n m (suc l) x) z ∙ on r h

  -- the records from l on, m of them, and then the search by which `rest` is found
  searched : (m l k : ℕ) (rest : List ℕ) → l + m ≤ n → ((r : ℕ) → r < length rest → search rs n k (l + m) r ≡ get_or rest r 0)
      → (r : ℕ) → r < length (labels_from l (take m (drop l fs)) ++ rest)
      → search rs n (m + k) l r ≡ get_or (labels_from l (take m (drop l fs)) ++ rest) r 0
  unfolding labels_from
  searched zero l k rest h f r q =
      let z : 0 + k ≡ k = omega arith in
      let y : l ≡ l + 0 = omega arith in
      ap (λ (x : ℕ). search rs n x l r) z ∙ ap (λ (x : ℕ). search rs n k x r) y ∙ f r q
  searched (suc m) l k rest h f r q =
      let z : suc m + k ≡ suc (m + k) = omega arith in
      let y : suc l + m ≡ l + suc m = omega arith in
      let ls = labels_from (suc l) (take m (drop (suc l) fs)) ++ rest in
      let d : drop l fs ≡ get_or fs l false ∷ drop (suc l) fs = drop-cons fs l false (omega (arith, size)) in
      let w : labels_from l (take (suc m) (drop l fs)) ++ rest ≡ kept (get_or fs l false) l ++ ls =
      ap (λ (gs : List Bool). labels_from l (take (suc m) gs) ++ rest) d ∙ first_label (get_or fs l false) l (take m (drop (suc l) fs)) rest in
      ap (λ (x : ℕ). search rs n x l r) z
      ∙ one_searched (m + k) l ls (omega arith) (searched m (suc l) k rest (omega arith) (λ j p. ap (λ (x : ℕ). search rs n k x j) y ∙ f j p))
      (get_or fs l false) refl r (subst (λ (xs : List ℕ). r < length xs) w q)
      ∙ ap (λ (xs : List ℕ). get_or xs r 0) (sym w)

  -- the records from label 0 on
  from_0 : (m : ℕ) → m ≤ n → (r : ℕ) → r < length (labels_from 0 (take m fs)) → search rs n m 0 r ≡ get_or (labels_from 0 (take m fs)) r 0
  from_0 m h r q =
      let z : m ≡ m + 0 = omega arith in
      let e = append-nil (labels_from 0 (take m fs)) in
      ap (λ (x : ℕ). search rs n x 0 r) z
      ∙ searched m 0 0 [] (omega arith) (λ j p. absurd (omega arith)) r (subst (λ (xs : List ℕ). r < length xs) (sym e) q)
      ∙ ap (λ (xs : List ℕ). get_or xs r 0) e

  -- past the highest the search goes on from label 0
  search_wraps : (m l r : ℕ) → 0 < n → n ≤ l → search rs n (suc m) l r ≡ search rs n (suc m) 0 r
  unfolding search
  search_wraps m l r some high =
      ap (λ (x : ℕ). elim (get_or rs x idle).holds [
        | true ↦ elim (eqb r 0) [ true ↦ x | false ↦ search rs n m (suc x) (r - 1) ]
        | false ↦ search rs n m (suc x) r
      ]) (wrapped_past n l high ∙ sym (wrapped_here n 0 some))

  -- so it finds the holders in the order in which they are counted
  pub found : (s r : ℕ) → r < length (round_from s fs) → holder_in rs n s r ≡ get_or (round_from s fs) r 0
  unfolding round_from labels_from
  found s r q = go (ltb s n) refl
    where
      -- the highest instance is passed
      wraps : (m r : ℕ) → m ≤ n → 0 < n → r < length (labels_from 0 (take m fs)) → search rs n m n r ≡ get_or (labels_from 0 (take m fs)) r 0
      wraps zero r h some q = absurd (omega arith)
      wraps (suc m) r h some q = search_wraps m n r some (omega arith) ∙ from_0 (suc m) h r q

      go : (t : Bool) → ltb s n ≡ t → holder_in rs n s r ≡ get_or (labels_from s (drop s fs) ++ labels_from 0 (take s fs)) r 0
      go true t =
          let low : s < n = ltb-true s n t in
          let z : n ≡ (n - s) + s = omega arith in
          let y : s + (n - s) ≡ n = omega arith in
          let w : take (n - s) (drop s fs) ≡ drop s fs = take_all (n - s) (drop s fs) (omega (arith, length-drop s fs, size)) in
          let e = ap (λ (gs : List Bool). labels_from s gs ++ labels_from 0 (take s fs)) w in
          ap (λ (x : ℕ). search rs n x s r) z
          ∙ searched (n - s) s s (labels_from 0 (take s fs)) (omega arith)
          (λ j p. ap (λ (x : ℕ). search rs n s x j) y ∙ wraps s j (omega arith) (omega arith) p) r (subst (λ (xs : List ℕ). r < length xs) (sym e) q)
          ∙ ap (λ (xs : List ℕ). get_or xs r 0) e
      go false t =
          let high : n ≤ s = ltb-false s n t in
          let e : labels_from s (drop s fs) ++ labels_from 0 (take s fs) ≡ labels_from 0 fs =
          ap (λ (gs : List Bool). labels_from s gs ++ labels_from 0 (take s fs)) (drop_of_length-le fs {i = s} (omega (arith, size)))
          ∙ ap (labels_from 0) (take_all s fs (omega (arith, size))) in
          all_past high n refl (subst (λ (xs : List ℕ). r < length xs) e q) ∙ ap (λ (xs : List ℕ). get_or xs r 0) (sym e)
        where
          all_past : n ≤ s → (m : ℕ) → m ≡ n → r < length (labels_from 0 fs) → search rs n m s r ≡ get_or (labels_from 0 fs) r 0
          all_past high zero e q = absurd (omega (arith, labels_few 0 fs, size))
          all_past high (suc m) e q =
              let w : take (suc m) fs ≡ fs = take_all (suc m) fs (omega (arith, size)) in
              search_wraps m s r (omega arith) high
              ∙ from_0 (suc m) (omega arith) r (subst (λ (gs : List Bool). r < length (labels_from 0 gs)) (sym w) q)
              ∙ ap (λ (gs : List Bool). get_or (labels_from 0 gs) r 0) w

module _ (heads : List ℕ) where
  -- the holder that a turn byte picks is found among the records
  pub picked_in : {n : ℕ} {rs : List Record} → Recorded heads n rs → (s e : ℕ) → 0 < holding heads 0 n
      → picked heads s n e ≡ holder_in rs n s (e % holding heads 0 n)
  unfolding picked chosen
  picked_in {n} {rs} f s e h =
      let fs = flags heads 0 n in
      let size = flags_length heads 0 n in
      let m : holding heads 0 n ≡ length (round_from s fs) = holding_round heads s n in
      let shown : (k : ℕ) → k < n → (get_or rs k idle).holds ≡ get_or fs k false =
      λ k q. let z : 0 + k ≡ k = omega arith in f.each k q ∙ ap (holds heads) (sym z) ∙ sym (flags_at heads 0 n k q) in
      ap (λ (x : ℕ). get_or (round_from s fs) (e % x) 0) (sym m) ∙ sym (found n rs fs size shown s (e % holding heads 0 n) (omega (arith, mod-lt e h, m)))

  -- Records are made one by one ----------------------------------------------------

  nobody_holds : (m k : ℕ) → (get_or (replicate m idle) k idle).holds ≡ false
  nobody_holds zero k = refl
  nobody_holds (suc m) zero = refl
  nobody_holds (suc m) (suc k) = nobody_holds m k

  pub recorded_none : Recorded heads 0 (replicate max_instances idle)
  recorded_none = record {
    long = length-replicate max_instances idle;
    each = λ k h. absurd (omega arith);
    rest = λ k h. nobody_holds max_instances k;
  }

  pub recorded_more : {n : ℕ} {rs : List Record} {b : Bool} → Recorded heads n rs → n < max_instances → b ≡ holds heads n
      → Recorded heads (n + 1) (set rs n (record { holds = b }))
  recorded_more {n} {rs} {b} f h e = record {
    long = length-set rs n now ∙ f.long;
    each = λ k q. go k q (eqb k n) refl;
    rest = λ k q. ap (λ (p : Record). p.holds) (get_or-set_other rs n k now idle (λ w. omega arith)) ∙ f.rest k (omega arith);
  }
    where
      now : Record
      now = record { holds = b }

      go : (k : ℕ) → k < n + 1 → (t : Bool) → eqb k n ≡ t → (get_or (set rs n now) k idle).holds ≡ holds heads k
      go k q true t =
          let w : k ≡ n = eqb-true k n t in
          let long = f.long in
          rw w (ap (λ (p : Record). p.holds) (get_or-set_same rs n now idle (omega arith)) ∙ e)
      go k q false t =
          let d = eqb-false k n t in
          ap (λ (p : Record). p.holds) (get_or-set_other rs n k now idle d) ∙ f.each k (omega arith)
