-- Laws of memory's lists: stores, runs of stores, the commands of an instance as a part of the list, and its numbers once it has
-- gone on (01, 'Table and turns').
use Prim.Native.Nat.{ℕ, zero, suc, ◌+◌, ◌-◌, ◌*◌, ◌<◌, ◌≤◌}
use native.Mathlib.Omega.{arith}
use Rattle.std.proofs.Math.Nat.{suc-sub-suc, sub-zero}
use Rattle.std.proofs.Math.Path.{◌≡◌, refl, ap, sym}
use Rattle.std.proofs.Common.{◌∙◌, subst, length-set, length-drop, drop-drop, get_or-set_same, get_or-set_other, lt-length-set}
use Rattle.std.specs.Prelude.{Bool, set}
use Rattle.std.proofs.Math.Bool.{true, false}
use mathlib.Core.List.{List, [], ◌∷◌, map}
use Rattle.std.proofs.Math.ListN.{length, get_or, take, drop, length-map}
use Rattle.std.proofs.lemmas.List.Edits.{sets}
use Rattle.std.proofs.Math.Seq.{length-take-le, drop-cons}
use Rattle.std.proofs.Math.Dec.{ltb}
use borrow.Author.Tests.{ltb-true, ltb-false}
use Rattle.types.specs.Limits.{max_instances}
use Rattle.commands.specs.Noted.{Note, erase}
use Rattle.commands.specs.Coding.{command_word, words}
use Rattle.layout.specs.Layout.{head, head_size, height_of, next_of, going}
use Rattle.memory.specs.Stands.{note_words}

-- a run of stores leaves the places outside it
pub sets_other : (l : List ℕ) (i : ℕ) (vs : List ℕ) (a : ℕ) → (i ≤ a → a < i + length vs → ⊥) → get_or (sets l i vs) a 0 ≡ get_or l a 0
sets_other l i [] a f = refl
sets_other l i (v ∷ vs) a f =
    sets_other (set l i v) (suc i) vs a (λ p q. f (omega arith) (omega arith)) ∙ get_or-set_other l i a v 0 (λ e. f (omega arith) (omega arith))

-- and stores each of its numbers
pub sets_at : (l : List ℕ) (i : ℕ) (vs : List ℕ) (k : ℕ) → k < length vs → i + length vs ≤ length l → get_or (sets l i vs) (i + k) 0 ≡ get_or vs k 0
sets_at l i [] k h b = absurd (omega arith)
sets_at l i (v ∷ vs) zero h b =
    let e : i ≡ i + 0 = omega arith in
    sets_other (set l i v) (suc i) vs (i + 0) (λ p q. omega arith)
    ∙ subst (λ (a : ℕ). get_or (set l i v) a 0 ≡ v) e (get_or-set_same l i v 0 (omega arith))
sets_at l i (v ∷ vs) (suc k) h b =
    let e : suc i + k ≡ i + suc k = omega arith in
    let n : length (set l i v) ≡ length l = length-set l i v in
    subst (λ (a : ℕ). get_or (sets (set l i v) (suc i) vs) a 0 ≡ get_or vs k 0) e (sets_at (set l i v) (suc i) vs k (omega arith) (omega arith))

-- Commands as a part of the list ---------------------------------------------------

drop_take : {A : Type 0} (k m : ℕ) (l : List A) → drop k (take m l) ≡ take (m - k) (drop k l)
drop_take zero m l = rw (sub-zero m)
drop_take (suc k) zero l = rw (nothing k)
  where
    nothing : (k : ℕ) → zero - suc k ≡ zero
    nothing k = omega arith
drop_take (suc k) (suc m) [] = nil (suc m - suc k)
  where
    nil : {A : Type 0} (n : ℕ) → ◌≡◌ {A = List A} [] (take n [])
    nil zero = refl
    nil (suc n) = refl
drop_take (suc k) (suc m) (x ∷ l) = rw (suc-sub-suc m k) (drop_take k m l)

words_drop : (k : ℕ) (c : List Note) → note_words (drop k c) ≡ drop k (note_words c)
unfolding words
words_drop zero c = refl
words_drop (suc k) [] = refl
words_drop (suc k) (n ∷ c) = words_drop k c

-- the words from b up to e, where they are those of a command and the commands behind it
module _ (list : List ℕ) (b e : ℕ) (within : e ≤ length list) (n : Note) (c : List Note) (code : take (e - b) (drop b list) ≡ note_words (n ∷ c)) where
  pub code_below : b < e
  unfolding words
  code_below = go (ltb b e) refl
    where
      go : (t : Bool) → ltb b e ≡ t → b < e
      go true q = ltb-true b e q
      go false q =
          let h : e ≤ b = ltb-false b e q in
          let z : e - b ≡ 0 = omega arith in
          let w : ◌≡◌ {A = List ℕ} [] (command_word (erase n) ∷ note_words c) = rw z at code in
          let x : ◌≡◌ {A = ℕ} 0 1 = cc in
          absurd (omega arith)

  parts : (command_word (erase n) ≡ get_or list b 0) × (note_words c ≡ take (e - suc b) (drop (suc b) list))
  unfolding words
  parts =
      let h : b < e = code_below in
      let d : drop b list ≡ get_or list b 0 ∷ drop (suc b) list = drop-cons list b 0 (omega arith) in
      let s : e - b ≡ suc (e - suc b) = omega arith in
      let w : get_or list b 0 ∷ take (e - suc b) (drop (suc b) list) ≡ command_word (erase n) ∷ note_words c = rw (d, s) at code in
      (cc, cc)

  -- the first of them
  pub code_word : get_or list b 0 ≡ command_word (erase n)
  code_word = sym parts.0

  -- those behind it
  pub code_after : take (e - suc b) (drop (suc b) list) ≡ note_words c
  code_after = sym parts.1

  -- there are as many as commands
  code_many : e - b ≡ suc (length c)
  unfolding words
  code_many =
      let a : length (take (e - b) (drop b list)) ≡ e - b = length-take-le (e - b) (drop b list) (rw (length-drop b list) (omega arith)) in
      let m : length (note_words (n ∷ c)) ≡ suc (length c) = rw (length-map (map erase (n ∷ c)) command_word, length-map (n ∷ c) erase) in
      sym a ∙ ap length code ∙ m

  -- k of those behind it end where all do, or before
  pub code_within : (k : ℕ) → k ≤ length c → suc b + k ≤ e
  code_within k h = let a = code_many in let d : b < e = code_below in omega arith

  -- those behind k more
  pub code_over : (k : ℕ) → take (e - (suc b + k)) (drop (suc b + k) list) ≡ note_words (drop k c)
  code_over k =
      let q : e - suc b - k ≡ e - (suc b + k) = omega arith in
      sym
      (words_drop k c ∙ ap (drop k) (sym code_after) ∙ drop_take k (e - suc b) (drop (suc b) list)
      ∙ rw (q, drop-drop k (suc b) list))

-- Numbers of an instance that has gone on -------------------------------------------

module _ (hs : List ℕ) (l h n : ℕ) where
  pub going_other : (a : ℕ) → (a ≡ head l height_of → ⊥) → (a ≡ head l next_of → ⊥) → get_or (going hs l h n) a 0 ≡ get_or hs a 0
  going_other a p q =
      get_or-set_other (set hs (head l height_of) h) (head l next_of) a n 0 q ∙ get_or-set_other hs (head l height_of) a h 0 p

  pub going_length : length (going hs l h n) ≡ length hs
  going_length = length-set (set hs (head l height_of) h) (head l next_of) n ∙ length-set hs (head l height_of) h

  module _ (long : length hs ≡ head_size * max_instances) (b : l < max_instances) where
    pub going_height : get_or (going hs l h n) (head l height_of) 0 ≡ h
    going_height =
        get_or-set_other (set hs (head l height_of) h) (head l next_of) (head l height_of) n 0 (λ e. omega arith)
        ∙ get_or-set_same hs (head l height_of) h 0 (omega arith)

    pub going_next : get_or (going hs l h n) (head l next_of) 0 ≡ n
    going_next = get_or-set_same (set hs (head l height_of) h) (head l next_of) n 0 (lt-length-set hs (head l height_of) h (omega arith))
