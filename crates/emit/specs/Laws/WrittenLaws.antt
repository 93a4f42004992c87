-- Words placed in a row: what a call wrote, what stands behind it, and room for both.
use Rattle.std.specs.Prelude.{ℕ, suc, ◌+◌, ◌<◌, ◌≡◌, refl, List, [], ◌∷◌, ◌++◌, length, set}
use Rattle.std.proofs.Common.{arith, add-one, sym, ap, ◌∙◌, length-append}
use Rattle.std.proofs.lemmas.List.Edits.{sets}
use Rattle.std.proofs.Math.Seq.{length-sets}
use Rattle.std.proofs.lemmas.List.{set_comm}
pub use Rattle.types.proofs.Laws.SetsLaws.{sets_append}
use Rattle.emit.specs.declared.Put.{Put}
use Rattle.emit.specs.Written.{Placed}

-- a word before words may be stored behind them
pub set_sets : (l : List ℕ) (i j : ℕ) (v : ℕ) (xs : List ℕ) → i < j → set (sets l j xs) i v ≡ sets (set l i v) j xs
set_sets l i j v [] h = refl
set_sets l i j v (x ∷ xs) h = set_sets (set l j x) i (suc j) v xs (omega arith) ∙ ap (λ l. sets l (suc j) xs) (set_comm l j i x v (λ e. omega arith))

-- nothing placed
pub placed_none : (out : List ℕ) (k m : ℕ) → Placed [] m out k (record { next = m; at = k }) out
placed_none out k m = record { next = refl; at = omega arith; list = refl }

-- one word
pub placed_one : {v m k : ℕ} {p : Put} {out out1 : List ℕ} → p.next ≡ m → p.at ≡ k + 1 → out1 ≡ set out k v → Placed (v ∷ []) m out k p out1
placed_one e f g = record { next = e; at = f; list = g }

module _ {ws : List ℕ} {m : ℕ} {out : List ℕ} {k : ℕ} {p : Put} {out1 : List ℕ} (h : Placed ws m out k p out1) where
  -- as many places as before
  pub placed_kept : length out1 ≡ length out
  placed_kept = ap length h.list ∙ length-sets out k ws

  -- the same words in other terms
  pub placed_as : {ws' : List ℕ} {m' : ℕ} → ws' ≡ ws → m' ≡ m → Placed ws' m' out k p out1
  placed_as e f = record { next = h.next ∙ sym f; at = rw e h.at; list = rw e h.list }

  -- words behind them
  pub placed_on : {ws' : List ℕ} {m' : ℕ} {q : Put} {out2 : List ℕ} → Placed ws' m' out1 p.at q out2 → Placed (ws ++ ws') m' out k q out2
  placed_on {ws'} g = record {
    next = g.next;
    at = rw length-append (omega (arith, h.at, g.at));
    list = g.list ∙ rw (h.list, h.at) (sym (sets_append out k ws ws'));
  }

  -- a word behind them
  pub placed_last : (v : ℕ) {q : Put} {out2 : List ℕ} → q.next ≡ p.next → q.at ≡ p.at + 1 → out2 ≡ set out1 p.at v
      → Placed (ws ++ (v ∷ [])) m out k q out2
  placed_last v e f g = placed_on (placed_one (e ∙ h.next) f g)

-- a word and words behind it
pub placed_first : {v : ℕ} {ws : List ℕ} {m k : ℕ} {p : Put} {out out1 out2 : List ℕ} → out1 ≡ set out k v → Placed ws m out1 (k + 1) p out2
    → Placed (v ∷ ws) m out k p out2
placed_first {k = k} e h = record { next = h.next; at = omega (arith, h.at); list = h.list ∙ rw (e, add-one k) }
