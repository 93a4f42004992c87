-- Reading is sound: a derivation that tokens are read as yields these tokens and keeps to the brackets.
use Rattle.std.specs.Prelude.{ℕ, ◌≡◌, refl, List, [], ◌∷◌, ◌++◌}
use Rattle.std.proofs.Common.{arith, ap, ◌∙◌, append-nil}
use Rattle.std.proofs.Math.Option.{Option, none, some}
use Rattle.tokens.specs.Tokens.{Word.w_if, Sign.lpar, Sign.rpar, Sign.lbrace, Sign.rbrace, Sign.comma, Sign.colon, Sign.semicolon, Sign.assign}
use Rattle.tokens.specs.Tokens.{Sign.dot as dot_sign, Token, Token.sign, Token.name}
use Rattle.syntax.specs.Syntax.{Var.id}
use Rattle.syntax.specs.Syntax.{Exp.variable, Stats.no_stats}
use Rattle.syntax.specs.Syntax.{Item, Item.execution, Sched.last_item, Program, Program.program}
use Rattle.syntax.specs.Places.{Place.in_constructor, Place.in_construct, Row, Row.in_program, Row.in_fix}
use Rattle.syntax.specs.Places.{State, State.at_defs, State.at_struct, State.at_struct_open, State.at_pars, State.at_par, State.at_colon}
use Rattle.syntax.specs.Places.{State.at_par_type, State.behind_par, State.at_steps_open, State.at_steps, State.at_step_open}
use Rattle.syntax.specs.Places.{State.at_stats, State.behind_name, State.at_dot_name, State.behind_dot_name, State.at_local, State.at_assign}
use Rattle.syntax.specs.Places.{State.at_construct, State.at_semicolon, State.at_then_open}
use Rattle.syntax.specs.Places.{State.want, State.after, State.behind_id, State.at_dot_id, State.behind_dot_id, State.at_args}
use Rattle.syntax.specs.Places.{State.at_null_type, State.at_item, State.behind_execution, State.at_step_name, State.at_fix_open}
use Rattle.syntax.specs.Places.{State.behind_item, State.dead}
use Rattle.syntax.specs.Places.{var_onto, stats_onto, sched_onto}
use Rattle.syntax.specs.Yield.{yield_var, yield_stats}
use Rattle.syntax.specs.Yield.{yield_defs, yield_item, yield_sched, yield}
use Rattle.syntax.specs.Bracketing.{tightest, Derives}
use Rattle.syntax.specs.SoFar.{structs_rev, ids_rev, items_rev, before_pars}
use Rattle.syntax.specs.SoFar.{before_steps, before_body, before_stat, before, before_row, before_item, so_far}
use Rattle.syntax.specs.SoFar.{FitsStructs, SitsRow, Sits}
use Rattle.syntax.specs.Reading.{step, run, whole, ended, read}
use Rattle.syntax.proofs.Laws.ExpectingLaws.{on_word_law, on_sign_law, on_name_law, on_type_word_law, on_type_law}
use Rattle.syntax.proofs.Laws.RowLaws.{var_yield, stats_yield, pars_yield, steps_yield, sched_yield, stats_fit, steps_fit}
use Rattle.syntax.proofs.Laws.PlaceLaws.{Kept, Kept.kept, Kept.lost, Goes, closed_kept, behind_kept, wanted_kept, item_wanted_kept, item_behind_kept}
use Rattle.syntax.proofs.Laws.PlaceLaws.{begun_kept}
use Rattle.syntax.proofs.Laws.LevelLaws.{least_most, room_most}
use Rattle.syntax.specs.Unfold.{sitting}

steps_kept : (u : State) (t : Token) → Sits u → Goes (so_far u) t (step u t)
unfolding step sitting
steps_kept (at_defs ds) t s = begun_kept ds t s
steps_kept (at_struct ds) t s = on_name_law (Goes (so_far (at_struct ds))) _ _ t (λ x. kept s (λ k. refl)) lost
steps_kept (at_struct_open ds m) t s = on_sign_law (Goes (so_far (at_struct_open ds m))) lpar _ _ t (kept s (λ k. refl)) lost
steps_kept (at_pars ds m) t s = on_sign_law (Goes (so_far (at_pars ds m))) rpar _ _ t (kept s (λ k. refl))
    (on_name_law (Goes (so_far (at_pars ds m))) _ _ t (λ x. kept s (λ k. refl)) lost)
steps_kept (at_par ds m ps) t s = on_name_law (Goes (so_far (at_par ds m ps))) _ _ t (λ x. kept s (λ k. refl)) lost
steps_kept (at_colon ds m ps x) t s = on_sign_law (Goes (so_far (at_colon ds m ps x))) colon _ _ t (kept s (λ k. refl)) lost
steps_kept (at_par_type ds m ps x) t s = on_type_law (Goes (so_far (at_par_type ds m ps x))) _ _ t (λ a. kept s (λ k. refl)) lost
steps_kept (behind_par ds m ps q) t s = on_sign_law (Goes (so_far (behind_par ds m ps q))) comma _ _ t (kept s (λ k. refl))
    (on_sign_law (Goes (so_far (behind_par ds m ps q))) rpar _ _ t (kept s (λ k. ap (before_pars ds m) (pars_yield ps q [] (sign rpar ∷ k)))) lost)
steps_kept (at_steps_open ds m ps) t s = on_sign_law (Goes (so_far (at_steps_open ds m ps))) lbrace _ _ t (kept (s, tt) (λ k. refl)) lost
steps_kept (at_steps ds m ps ts) t s =
    on_name_law (Goes (so_far (at_steps ds m ps ts))) _ _ t (λ x. kept s (λ k. refl))
    (on_sign_law (Goes (so_far (at_steps ds m ps ts))) rbrace _ _ t
    (kept (steps_fit ts [] s.1 tt, s.0) (λ k. ap (before_steps ds m ps) (steps_yield ts [] (sign rbrace ∷ k)))) lost)
steps_kept (at_step_open ds m ps ts x) t s = on_sign_law (Goes (so_far (at_step_open ds m ps ts x))) lbrace _ _ t (kept (tt, s) (λ k. refl)) lost
steps_kept (at_stats l c) t s =
    on_word_law (Goes (so_far (at_stats l c))) w_if _ _ t (kept s (λ k. refl))
    (on_type_word_law (Goes (so_far (at_stats l c))) _ _ t (λ a. kept s (λ k. refl))
    (on_name_law (Goes (so_far (at_stats l c))) _ _ t (λ x. kept s (λ k. refl))
    (on_sign_law (Goes (so_far (at_stats l c))) rbrace _ _ t (said (closed_kept (stats_onto l no_stats) c (stats_fit l no_stats s.0 tt) s.1)) lost)))
  where
    said : {u : State} → Kept (λ k. before_body c (yield_stats (stats_onto l no_stats) (sign rbrace ∷ k))) u → Goes (before_stat l c) (sign rbrace) u
    said (kept h e) = kept h (λ k. e k ∙ ap (before_body c) (stats_yield l no_stats (sign rbrace ∷ k)))
    said lost = lost
steps_kept (behind_name l c x) t s =
    on_name_law (Goes (so_far (behind_name l c x))) _ _ t (λ y. kept s (λ k. refl))
    (on_sign_law (Goes (so_far (behind_name l c x))) assign _ _ t (kept s (λ k. refl)) (on_sign_law (Goes (so_far (behind_name l c x))) dot_sign _ _ t
    (kept s (λ k. refl)) (on_sign_law (Goes (so_far (behind_name l c x))) lpar _ _ t (kept s (λ k. refl)) lost)))
steps_kept (at_dot_name l c xs) t s = on_name_law (Goes (so_far (at_dot_name l c xs))) _ _ t (λ y. kept s (λ k. refl)) lost
steps_kept (behind_dot_name l c xs y) t s =
    on_sign_law (Goes (so_far (behind_dot_name l c xs y))) dot_sign _ _ t (kept s (λ k. refl))
    (on_sign_law (Goes (so_far (behind_dot_name l c xs y))) assign _ _ t (kept s (λ k. ap (before_stat l c) (var_yield xs (id y) (sign assign ∷ k)))) lost)
steps_kept (at_local l c a) t s = on_name_law (Goes (so_far (at_local l c a))) _ _ t (λ x. kept s (λ k. refl)) lost
steps_kept (at_assign l c a x) t s = on_sign_law (Goes (so_far (at_assign l c a x))) assign _ _ t (kept s (λ k. refl)) lost
steps_kept (at_construct l c x) t s = on_sign_law (Goes (so_far (at_construct l c x))) rpar _ _ t (kept (tt, s.0, s.1) (λ k. refl))
    (wanted_kept (in_construct x [] l c) t (tt, s.0, s.1))
steps_kept (at_semicolon l c x es) t s = on_sign_law (Goes (so_far (at_semicolon l c x es))) semicolon _ _ t (kept ((s.0, s.1), s.2) (λ k. refl)) lost
steps_kept (at_then_open l c e) t s = on_sign_law (Goes (so_far (at_then_open l c e))) lbrace _ _ t (kept (tt, s) (λ k. refl)) lost
steps_kept (want p) t s = wanted_kept p t s
steps_kept (after p e) t s = behind_kept p e tightest t s.0 (room_most p) (least_most t) s.1
steps_kept (behind_id p x) t s =
    on_sign_law (Goes (so_far (behind_id p x))) lpar _ _ t (kept s (λ k. refl)) (on_sign_law (Goes (so_far (behind_id p x))) dot_sign _ _ t
    (kept s (λ k. refl)) (behind_kept p (variable (id x)) tightest t tt (room_most p) (least_most t) s))
steps_kept (at_dot_id p xs) t s = on_name_law (Goes (so_far (at_dot_id p xs))) _ _ t (λ y. kept s (λ k. refl)) lost
steps_kept (behind_dot_id p xs y) t s =
    on_sign_law (Goes (so_far (behind_dot_id p xs y))) dot_sign _ _ t (kept s (λ k. refl))
    (said (behind_kept p (variable (var_onto xs (id y))) tightest t tt (room_most p) (least_most t) s))
  where
    said : {u : State} → Goes (λ k. before p (yield_var (var_onto xs (id y)) k)) t u → Goes (λ k. before p (ids_rev xs (name y ∷ k))) t u
    said (kept h e) = kept h (λ k. e k ∙ ap (before p) (var_yield xs (id y) (t ∷ k)))
    said lost = lost
steps_kept (at_args p x) t s = on_sign_law (Goes (so_far (at_args p x))) rpar _ _ t (kept (tt, s) (λ k. refl)) (wanted_kept (in_constructor x [] p) t (tt, s))
steps_kept (at_null_type p) t s = on_type_law (Goes (so_far (at_null_type p))) _ _ t (λ a. kept (tt, s) (λ k. refl)) lost
steps_kept (at_item l r) t s = item_wanted_kept l r t s
steps_kept (behind_execution l r x) t s = on_sign_law (Goes (so_far (behind_execution l r x))) dot_sign _ _ t (kept s (λ k. refl))
    (item_behind_kept l r (execution x) t s)
steps_kept (at_step_name l r x) t s = on_name_law (Goes (so_far (at_step_name l r x))) _ _ t (λ y. kept s (λ k. refl)) lost
steps_kept (at_fix_open l r) t s = on_sign_law (Goes (so_far (at_fix_open l r))) lpar _ _ t (kept s (λ k. refl)) lost
steps_kept (behind_item l r i) t s = item_behind_kept l r i t s
steps_kept dead t s = lost

run_dead : (ts : List Token) → run dead ts ≡ dead
unfolding run step
run_dead [] = refl
run_dead (t ∷ ts) = run_dead ts

runs_kept : (u : State) (ts : List Token) → Sits u → Kept (λ k. so_far u (ts ++ k)) (run u ts)
unfolding run
runs_kept u [] s = kept s (λ k. refl)
runs_kept u (t ∷ ts) s = go (step u t) (steps_kept u t s) (λ h. runs_kept (step u t) ts h)
  where
    with : (v : State) → ((k : List Token) → so_far v k ≡ so_far u (t ∷ k)) → {w : State} → Kept (λ k. so_far v (ts ++ k)) w
        → Kept (λ k. so_far u (t ∷ (ts ++ k))) w
    with v e (kept h f) = kept h (λ k. f k ∙ e (ts ++ k))
    with v e lost = lost

    go : (v : State) → Goes (so_far u) t v → (Sits v → Kept (λ k. so_far v (ts ++ k)) (run v ts)) → Kept (λ k. so_far u (t ∷ (ts ++ k))) (run v ts)
    go v (kept h e) rec = with v e (rec h)
    go v lost rec = rw (run_dead ts) lost

-- what the last item makes of a schedule
whole_sound : (ts : List Token) (c : Program) (l : List Item) (r : Row) (i : Item) → SitsRow r → before_item l r (yield_item i []) ≡ ts
    → whole l r i ≡ some c → Derives ts c
unfolding whole SitsRow before_item before_row yield yield_sched
whole_sound ts c l (in_program d) i s e q =
    let w : program d (sched_onto l (last_item i)) ≡ c = cc in
    rw (← w) record { fits = s; yields = ap (yield_defs d) (sched_yield l (last_item i) []) ∙ e }
whole_sound ts c l (in_fix m r) i s e q = absurd (let z : ◌≡◌ {A = ℕ} 0 1 = cc in omega arith)

none_some : {A : Type 0} {P : Type 0} {c : A} → ◌≡◌ {A = Option A} none (some c) → P
none_some e = absurd (let z : ◌≡◌ {A = ℕ} 0 1 = cc in omega arith)

pub read_derives : (ts : List Token) (c : Program) → read ts ≡ some c → Derives ts c
unfolding read so_far Sits structs_rev FitsStructs ended before_item before_row items_rev yield_item
read_derives ts c q = go (run (at_defs []) ts) (runs_kept (at_defs []) ts tt) q
  where
    go : (u : State) → Kept (λ k. ts ++ k) u → ended u ≡ some c → Derives ts c
    go (behind_execution l r x) (kept s e) q = whole_sound ts c l r (execution x) s (e [] ∙ append-nil ts) q
    go (behind_item l r i) (kept s e) q = whole_sound ts c l r i s (e [] ∙ append-nil ts) q
    go (at_defs ds) w g = none_some g
    go (at_struct ds) w g = none_some g
    go (at_struct_open ds n) w g = none_some g
    go (at_pars ds n) w g = none_some g
    go (at_par ds n ps) w g = none_some g
    go (at_colon ds n ps x) w g = none_some g
    go (at_par_type ds n ps x) w g = none_some g
    go (behind_par ds n ps q) w g = none_some g
    go (at_steps_open ds n ps) w g = none_some g
    go (at_steps ds n ps ts) w g = none_some g
    go (at_step_open ds n ps ts x) w g = none_some g
    go (at_stats l c) w g = none_some g
    go (behind_name l c x) w g = none_some g
    go (at_dot_name l c xs) w g = none_some g
    go (behind_dot_name l c xs y) w g = none_some g
    go (at_local l c a) w g = none_some g
    go (at_assign l c a x) w g = none_some g
    go (at_construct l c x) w g = none_some g
    go (at_semicolon l c x es) w g = none_some g
    go (at_then_open l c e) w g = none_some g
    go (want p) w g = none_some g
    go (after p e) w g = none_some g
    go (behind_id p x) w g = none_some g
    go (at_dot_id p xs) w g = none_some g
    go (behind_dot_id p xs y) w g = none_some g
    go (at_args p x) w g = none_some g
    go (at_null_type p) w g = none_some g
    go (at_item l r) w g = none_some g
    go (at_step_name l r x) w g = none_some g
    go (at_fix_open l r) w g = none_some g
    go dead w g = none_some g
