-- The loop over the kinds, from token to token: its state and stack are the shape over the kinds passed, and what is left leads to the roles of the whole.
use Rattle.std.specs.Prelude.{ℕ, ◌+◌, ◌≤◌, ◌<◌, ◌≡◌, refl, Bool, true, false, List, [], ◌∷◌, get_or, drop, eqb}
use Rattle.std.proofs.Common.{arith, sym, ◌∙◌, length-set, drop-set-lt, ne_eqb}
use Rattle.std.proofs.Math.ListN.{length, drop_of_length-le}
use Rattle.types.proofs.Laws.ListLaws.{drop_next}
use Rattle.tokens.specs.Marking.{kinds_in}
use Rattle.lexer.specs.Gaps.{Gap}
use Rattle.lexer.specs.GapLaws.{gap_over}
use Rattle.text_shape.specs.Shape.{Shape, Shape.shape, sample, move, moves, derived}
use Rattle.text_shape.specs.RoleMarks.{role, renamed, role_codes, placed}
use Rattle.text_shape.specs.CodeNames.{codes}
use Rattle.derive.specs.Held.{held, Kept, passed, ends}
use Rattle.derive.specs.HeldLaws.{kept_shape, passed_none, passed_token, loop_start, loop_past, loop_token, loop_end}
use Rattle.derive.specs.CodeLaws.{move_code}
use Rattle.derive.specs.Leaving.{amended, left, renames, leaves}
use Rattle.derive.specs.LeavingLaws.{length_amended, left_all}
use Rattle.text_shape.specs.CodeNames.{first_defs_code}

-- of the kinds ks, with what stands in their places now, the stack, a state and its height, the place of the last token, and the next place
pub record Reached (ks now stack₀ stack : List ℕ) (q h last i : ℕ) : Type 0 where
  pub inner : i ≤ length ks
  pub code : q < codes
  pub low : h ≤ i
  pub before : last ≤ i
  pub fits : length ks ≤ length stack
  pub room : length stack ≡ length stack₀
  pub kept : length now ≡ length ks
  pub rest : drop i now ≡ drop i ks
  pub state : Kept q h stack (passed ks i)
  pub whole : leaves (passed ks i) last i (drop i ks) now ≡ leaves (shape first_defs_code []) 0 0 ks ks

-- one place of what the loop leaves
leaves_past : (s : Shape) (last i k : ℕ) (ks m : List ℕ) → k ≡ 0 → leaves s last i (k ∷ ks) m ≡ leaves s last (i + 1) ks m
unfolding leaves
leaves_past s last i k ks m e = rw e refl

leaves_next : (s : Shape) (last i k : ℕ) (ks m : List ℕ) → (k ≡ 0 → ⊥)
    → leaves s last i (k ∷ ks) m ≡ leaves (move s (sample k)) i (i + 1) ks (left m i last (role s k) (renames s k))
unfolding leaves
leaves_next s last i k ks m n = rw (ne_eqb k 0 n, leaves)

pub length_left : (m : List ℕ) (i last r w : ℕ) → length (left m i last r w) ≡ length m
unfolding left
length_left m i last r w = length-set (amended m last w) i r ∙ length_amended m last w

drop_amended : (m : List ℕ) (n last w : ℕ) → last < n → drop n (amended m last w) ≡ drop n m
unfolding amended
drop_amended m n last w l = go (eqb w 0) refl
  where
    go : (b : Bool) → eqb w 0 ≡ b → drop n (amended m last w) ≡ drop n m
    go true e = rw (amended, e)
    go false e = rw (amended, e) (drop-set-lt n m last w l)

drop_left : (m : List ℕ) (i last r w : ℕ) → last ≤ i → drop (i + 1) (left m i last r w) ≡ drop (i + 1) m
unfolding left
drop_left m i last r w l = drop-set-lt (i + 1) (amended m last w) i r (omega arith) ∙ drop_amended m (i + 1) last w (omega arith)

pub reached_start : (ks stack : List ℕ) → length ks ≤ length stack → Reached ks ks stack stack first_defs_code 0 0 0
unfolding passed kinds_in moves
reached_start ks stack l =
    record {
      inner = omega arith;
      code = omega arith;
      low = omega arith;
      before = omega arith;
      fits = l;
      room = refl;
      kept = refl;
      rest = refl;
      state = loop_start ks stack;
      whole = refl;
    }

module _ {ks now stack₀ stack : List ℕ} {q h last i : ℕ} (r : Reached ks now stack₀ stack q h last i) where
  module _ (l : i < length ks) where
    rest_here : ◌≡◌ {A = List ℕ} (get_or now i 0 ∷ drop (i + 1) now) (get_or ks i 0 ∷ drop (i + 1) ks)
    rest_here = sym (drop_next now i (omega (arith, r.kept))) ∙ r.rest ∙ drop_next ks i l

    -- a kind that was not passed stands where it stood
    at_kind : get_or now i 0 ≡ get_or ks i 0
    at_kind = cc rest_here

    rest_on : drop (i + 1) now ≡ drop (i + 1) ks
    rest_on = cc rest_here

    whole_here : leaves (passed ks i) last i (get_or now i 0 ∷ drop (i + 1) ks) now ≡ leaves (shape first_defs_code []) 0 0 ks ks
    whole_here = rw (at_kind, ← drop_next ks i l) r.whole

    pub reached_past : get_or now i 0 ≡ 0 → Reached ks now stack₀ stack q h last (i + 1)
    reached_past e =
        record {
          inner = omega arith;
          code = r.code;
          low = omega (arith, r.low);
          before = omega (arith, r.before);
          fits = r.fits;
          room = r.room;
          kept = r.kept;
          rest = rest_on;
          state = loop_past ks stack q h i l (sym at_kind ∙ e) r.state;
          whole = rw (passed_none ks i l (sym at_kind ∙ e)) (sym (leaves_past (passed ks i) last i (get_or now i 0) (drop (i + 1) ks) now e) ∙ whole_here);
        }

    pub reached_token : {now₁ stack₁ : List ℕ} {q₁ h₁ own other : ℕ} → (get_or now i 0 ≡ 0 → ⊥)
        → own ≡ role (shape q (held stack h)) (get_or now i 0) → other ≡ renamed q (get_or now i 0) → now₁ ≡ left now i last own other
        → Kept q₁ h₁ stack₁ (move (shape q (held stack h)) (sample (get_or now i 0))) → h₁ ≤ h + 1 → length stack₁ ≡ length stack
        → Reached ks now₁ stack₀ stack₁ q₁ h₁ i (i + 1)
    unfolding renames
    reached_token {now₁} {stack₁} {q₁} {h₁} n a w e k b c =
        let s : passed ks i ≡ shape q (held stack h) = kept_shape r.state in
        let amended_on : now₁ ≡ left now i last (role (passed ks i) (get_or now i 0)) (renames (passed ks i) (get_or now i 0)) = rw (s, ← a, ← w) e in
        let passed_on : passed ks (i + 1) ≡ move (passed ks i) (sample (get_or now i 0)) = rw at_kind (passed_token ks i l (λ z. n (at_kind ∙ z))) in
        record {
          inner = omega arith;
          code = move_code _ _ k;
          low = omega (arith, r.low);
          before = omega arith;
          fits = omega (arith, r.fits);
          room = c ∙ r.room;
          kept = rw e (length_left _ _ _ _ _ ∙ r.kept);
          rest = rw e (drop_left _ _ _ _ _ r.before ∙ rest_on);
          state = loop_token ks stack stack₁ q h q₁ h₁ i l (λ z. n (at_kind ∙ z)) r.state (rw at_kind at k);
          whole = rw (passed_on, amended_on) (sym (leaves_next (passed ks i) last i (get_or now i 0) (drop (i + 1) ks) now n) ∙ whole_here);
        }

  pub reached_end : length ks ≤ i → (ends q h ≡ derived (kinds_in ks)) × (now ≡ placed ks (role_codes (shape first_defs_code []) (kinds_in ks)))
  unfolding leaves
  reached_end l =
      let e : i ≡ length ks = omega (arith, r.inner) in
      let d = drop_of_length-le ks {i = i} l in
      (loop_end ks stack q h i e r.state, rw d at r.whole ∙ left_all ks)

-- over a gap of the kinds as they are now
pub reached_gap : {ks now stack₀ stack : List ℕ} {q h last i j : ℕ} → Gap now i j → Reached ks now stack₀ stack q h last i
    → Reached ks now stack₀ stack q h last j
reached_gap {ks} {now} {stack₀} {stack} {q} {h} {last} =
    gap_over (Reached ks now stack₀ stack q h last) (λ p l e r. reached_past r (omega (arith, r.kept, l)) e)
