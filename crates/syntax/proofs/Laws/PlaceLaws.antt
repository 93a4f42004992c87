-- What is read was there: a state's tokens and one more are those of the state that it leads to.
use Rattle.std.specs.Prelude.{ℕ, suc, ◌<◌, ◌≤◌, ◌≡◌, refl, Bool, true, false, List, [], ◌∷◌, leb, eqb}
use Rattle.std.proofs.Common.{arith, ap, ◌∙◌, leb-true, leb-false}
use Rattle.std.proofs.lemmas.Bool.{eqb-false}
use Rattle.program.specs.Tree.{Op}
use Rattle.tokens.specs.Tokens.{Word.w_struct, Word.w_then, Word.w_null, Word.w_this, Word.w_fix, Sign.lpar, Sign.rpar, Sign.rbrace, Sign.comma}
use Rattle.tokens.specs.Tokens.{Sign.semicolon, Sign.bang, Token, Token.word, Token.sign, Token.op, Token.name}
use Rattle.syntax.specs.Syntax.{Exp, Exp.binary, Exp.negation, Exps.no_exps, Exps.exps, Stat.if_then, Stats}
use Rattle.syntax.specs.Syntax.{Step.step as a_step, Struct, Defs.last_struct, Item, Sched.last_item}
use Rattle.syntax.specs.Places.{Body, Body.in_step, Body.in_then, Place, Place.in_brackets, Place.in_negation, Place.in_right}
use Rattle.syntax.specs.Places.{Place.in_constructor, Place.in_construct, Place.in_if, Place.in_assignment, Place.in_update, Row}
use Rattle.syntax.specs.Places.{Row.in_program, Row.in_fix}
use Rattle.syntax.specs.Places.{State, State.at_steps}
use Rattle.syntax.specs.Places.{State.at_stats, State.want}
use Rattle.syntax.specs.Places.{State.dead}
use Rattle.syntax.specs.Places.{defs_onto}
use Rattle.syntax.specs.Yield.{yield_exp, yield_stats}
use Rattle.syntax.specs.Yield.{yield_item}
use Rattle.syntax.specs.Bracketing.{level, loosest, tightest, left, Fits, FitsStats}
use Rattle.syntax.specs.SoFar.{structs_rev}
use Rattle.syntax.specs.SoFar.{before_body, before_stat, before, before_item, so_far}
use Rattle.syntax.specs.SoFar.{FitsStructs, SitsBody, room, SitsPlace, SitsRow, Sits}
use Rattle.syntax.specs.Reading.{closed, least, extended, tighter, behind, wanted, item_wanted, item_behind, begun}
use Rattle.syntax.specs.Expecting.{on_op}
use Rattle.syntax.proofs.Laws.ExpectingLaws.{on_word_law, on_sign_law, on_name_law, on_op_law, on_less_law, on_literal_law}
use Rattle.syntax.proofs.Laws.RowLaws.{exps_yield, defs_yield, sched_yield, exps_fit, defs_fit}
use Rattle.syntax.proofs.Laws.LevelLaws.{left_from, least_most, room_most, fits_down}
use Rattle.syntax.specs.Unfold.{sitting}

-- a state that keeps to the brackets and whose tokens are given; nothing is said of a dead one
pub data Kept (f : List Token → List Token) : State → Type 0 where
  kept : {s : State} → Sits s → ((k : List Token) → so_far s k ≡ f k) → Kept f s
  lost : Kept f dead

-- and one token more
abbrev pub Goes : (List Token → List Token) → Token → State → Type 0
Goes f t s = Kept (λ k. f (t ∷ k)) s

pub closed_kept : (b : Stats) (c : Body) → FitsStats b → SitsBody c → Kept (λ k. before_body c (yield_stats b (sign rbrace ∷ k))) (closed b c)
unfolding closed sitting
closed_kept b (in_step ds n ps ts x) f s = kept {s = at_steps ds n ps (a_step x b ∷ ts)} (s.0, (f, s.1)) (λ k. refl)
closed_kept b (in_then e l c) f s = kept {s = at_stats (if_then e b ∷ l) c} (((s.0, f), s.1), s.2) (λ k. refl)

-- what is read up to an expression and with it
abbrev up_to : Place → Exp → List Token → List Token
up_to p e k = before p (yield_exp e k)

-- an operator behind an expression that may stand before it
extended_kept : (p : Place) (e : Exp) (l : ℕ) (z : State) (t : Token) → Fits l e → room p ≡ loosest → least t ≤ l → SitsPlace p → Goes (up_to p e) t z
    → Goes (up_to p e) t (extended p e z t)
unfolding extended least on_op sitting
extended_kept p e l z t f h g s q =
    on_op_law (λ u v. least u ≤ l → Goes (up_to p e) u v) _ z t
    (λ o m. kept (fits_down (left o) l e m f, omega (arith, h), s) (λ k. refl)) (λ m. q) g

-- one behind the right operand of an operator that is looser
tighter_kept : (o r : Op) (a e : Exp) (l : ℕ) (p : Place) → Fits l e → level o < left r → left r ≤ l → SitsPlace (in_right o a p)
    → Goes (up_to (in_right o a p) e) (op r) (tighter o r (want (in_right r e (in_right o a p))))
unfolding tighter sitting
tighter_kept o r a e l p f h g s = go (eqb (level o) (level r)) refl
  where
    go : (b : Bool) → eqb (level o) (level r) ≡ b
        → Goes (up_to (in_right o a p) e) (op r) (tighter o r (want (in_right r e (in_right o a p))))
    go true u = rw (u, tighter) lost
    go false u =
        rw (u, tighter)
        (kept {s = want (in_right r e (in_right o a p))} (fits_down (left r) l e g f, omega (arith, left_from r, eqb-false (level o) (level r) u), s)
        (λ k. refl))

pub behind_kept : (p : Place) (e : Exp) (l : ℕ) (t : Token) → Fits l e → room p ≤ l → least t ≤ l → SitsPlace p → Goes (up_to p e) t (behind p e t)
unfolding behind least on_op sitting
behind_kept (in_brackets p) e l t f h g s =
    extended_kept (in_brackets p) e l _ t f refl g s
    (on_sign_law (Goes (up_to (in_brackets p) e)) rpar _ _ t (kept (fits_down loosest l e (omega arith) f, s) (λ k. refl)) lost)
behind_kept (in_negation p) e l t f h g s = behind_kept p (negation e) tightest t (fits_down tightest l e h f) (room_most p) (least_most t) s
behind_kept (in_right o a p) e l t f h g s =
    go (leb (least t) (level o)) refl
    (λ m. behind_kept p (binary o a e) (level o) t (omega arith, s.0, fits_down (suc (level o)) l e h f) s.1 m s.2)
  where
    go : (b : Bool) → leb (least t) (level o) ≡ b → (least t ≤ level o → Goes (up_to (in_right o a p) e) t (behind p (binary o a e) t))
        → Goes (up_to (in_right o a p) e) t (behind (in_right o a p) e t)
    go true u k = rw (u, behind) (k (leb-true (least t) (level o) u))
    go false u k =
        rw (u, behind)
        (on_op_law (λ w v. level o < least w → least w ≤ l → Goes (up_to (in_right o a p) e) w v) _ dead t
        (λ r m n. tighter_kept o r a e l p f m n s) (λ m n. lost) (leb-false (least t) (level o) u) g)
behind_kept (in_constructor x es p) e l t f h g s =
    extended_kept (in_constructor x es p) e l _ t f refl g s
    (on_sign_law (Goes (up_to (in_constructor x es p) e)) comma _ _ t (kept ((fits_down loosest l e (omega arith) f, s.0), s.1) (λ k. refl))
    (on_sign_law (Goes (up_to (in_constructor x es p) e)) rpar _ _ t
    (kept (exps_fit es (exps e no_exps) s.0 (fits_down loosest l e (omega arith) f, tt), s.1) (λ k. ap (λ m. before p (name x ∷ sign lpar
    ∷ m)) (exps_yield es e no_exps (sign rpar ∷ k)))) lost))
behind_kept (in_construct x es m c) e l t f h g s =
    extended_kept (in_construct x es m c) e l _ t f refl g s
    (on_sign_law (Goes (up_to (in_construct x es m c) e)) comma _ _ t (kept ((fits_down loosest l e (omega arith) f, s.0), s.1, s.2) (λ k. refl))
    (on_sign_law (Goes (up_to (in_construct x es m c) e)) rpar _ _ t
    (kept (exps_fit es (exps e no_exps) s.0 (fits_down loosest l e (omega arith) f, tt), s.1, s.2) (λ k. ap (λ u. before_stat m c (name x
    ∷ sign lpar ∷ u)) (exps_yield es e no_exps (sign rpar ∷ k)))) lost))
behind_kept (in_if m c) e l t f h g s =
    extended_kept (in_if m c) e l _ t f refl g s
    (on_word_law (Goes (up_to (in_if m c) e)) w_then _ _ t (kept (fits_down loosest l e (omega arith) f, s.0, s.1) (λ k. refl)) lost)
behind_kept (in_assignment a x m c) e l t f h g s =
    extended_kept (in_assignment a x m c) e l _ t f refl g s
    (on_sign_law (Goes (up_to (in_assignment a x m c) e)) semicolon _ _ t (kept ((fits_down loosest l e (omega arith) f, s.0), s.1) (λ k. refl)) lost)
behind_kept (in_update v m c) e l t f h g s =
    extended_kept (in_update v m c) e l _ t f refl g s
    (on_sign_law (Goes (up_to (in_update v m c) e)) semicolon _ _ t (kept ((fits_down loosest l e (omega arith) f, s.0), s.1) (λ k. refl)) lost)

pub wanted_kept : (p : Place) (t : Token) → SitsPlace p → Goes (before p) t (wanted p t)
unfolding wanted sitting
wanted_kept p t s =
    on_name_law (Goes (before p)) _ _ t (λ x. kept s (λ k. refl))
    (on_sign_law (Goes (before p)) lpar _ _ t (kept s (λ k. refl))
    (on_sign_law (Goes (before p)) bang _ _ t (kept s (λ k. refl))
    (on_literal_law (Goes (before p)) _ _ t (λ l. kept (tt, s) (λ k. refl))
    (on_word_law (Goes (before p)) w_null _ _ t (kept s (λ k. refl)) (on_word_law (Goes (before p)) w_this _ _ t (kept (tt, s) (λ k. refl)) lost)))))

pub item_wanted_kept : (l : List Item) (r : Row) (t : Token) → SitsRow r → Goes (before_item l r) t (item_wanted l r t)
unfolding item_wanted sitting
item_wanted_kept l r t s = on_name_law (Goes (before_item l r)) _ _ t (λ x. kept s (λ k. refl)) (on_word_law (Goes (before_item l r)) w_fix _ _ t
    (kept s (λ k. refl)) lost)

pub item_behind_kept : (l : List Item) (r : Row) (i : Item) (t : Token) → SitsRow r → Goes (λ k. before_item l r (yield_item i k)) t (item_behind l r i t)
unfolding item_behind sitting
item_behind_kept l (in_program d) i t s = on_less_law (Goes (λ k. before_item l (in_program d) (yield_item i k))) _ _ t (kept s (λ k. refl)) lost
item_behind_kept l (in_fix m r) i t s =
    on_less_law (Goes (λ k. before_item l (in_fix m r) (yield_item i k))) _ _ t (kept s (λ k. refl))
    (on_sign_law (Goes (λ k. before_item l (in_fix m r) (yield_item i k))) rpar _ _ t
    (kept s (λ k. ap (λ u. before_item m r (word w_fix ∷ sign lpar ∷ u)) (sched_yield l (last_item i) (sign rpar ∷ k)))) lost)

pub begun_kept : (ds : List Struct) (t : Token) → FitsStructs ds → Goes (structs_rev ds) t (begun ds t)
unfolding begun sitting
begun_kept [] t s = on_word_law (Goes (structs_rev [])) w_struct _ _ t (kept s (λ k. refl)) lost
begun_kept (d ∷ ds) t s =
    on_word_law (Goes (structs_rev (d ∷ ds))) w_struct _ _ t (kept s (λ k. refl))
    (said (item_wanted_kept [] (in_program (defs_onto ds (last_struct d))) t (defs_fit ds (last_struct d) s.1 s.0)))
  where
    said : {u : State} → Goes (before_item [] (in_program (defs_onto ds (last_struct d)))) t u → Goes (structs_rev (d ∷ ds)) t u
    said (kept h e) = kept h (λ k. e k ∙ defs_yield ds (last_struct d) (t ∷ k))
    said lost = lost
