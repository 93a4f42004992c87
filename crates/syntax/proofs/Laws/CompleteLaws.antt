-- Reading is complete: what a derivation yields is read as it. With it, tokens have one derivation at most.
use Rattle.std.proofs.Common.{arith, ap, ◌∙◌}
use Rattle.std.specs.Prelude.{◌≡◌, refl, ◌↔◌}
use mathlib.Core.List.{List, [], ◌∷◌, reverse_aux}
use Rattle.std.proofs.Math.Option.{some}
use Rattle.program.specs.Tree.{Op.op_lt}
use Rattle.tokens.specs.Tokens.{Word.w_then, Sign.rpar, Sign.lbrace, Sign.rbrace, Sign.comma, Sign.semicolon, Sign.assign, Sign.dot as dot_sign}
use Rattle.tokens.specs.Tokens.{Token, Token.word, Token.sign, Token.op}
use Rattle.syntax.specs.Syntax.{Id, TypeName, TypeName.int_type, TypeName.nat_type, TypeName.bool_type, TypeName.id_type, Var, Var.id, Var.dot}
use Rattle.syntax.specs.Syntax.{Exp, Exps, Stat, Stat.if_then, Stat.assignment, Stat.update, Stat.construct, Stats, Stats.no_stats, Stats.stats}
use Rattle.syntax.specs.Syntax.{Par, Par.par, Step, Step.step as a_step, Struct, Struct.struct, Defs, Defs.last_struct, Defs.defs, Item}
use Rattle.syntax.specs.Syntax.{Item.execution, Item.typed_execution, Item.fixpoint, Sched, Sched.last_item, Sched.barrier, Program}
use Rattle.syntax.specs.Syntax.{Program.program}
use Rattle.syntax.specs.Places.{Body, Body.in_step, Body.in_then, Place.in_construct, Place.in_if, Place.in_assignment, Place.in_update, Row}
use Rattle.syntax.specs.Places.{Row.in_program, Row.in_fix}
use Rattle.syntax.specs.Places.{State, State.at_defs, State.at_pars, State.at_par, State.behind_par, State.at_steps_open, State.at_steps}
use Rattle.syntax.specs.Places.{State.at_stats, State.at_dot_name, State.at_construct, State.at_semicolon}
use Rattle.syntax.specs.Places.{State.want, State.at_item, State.behind_item}
use Rattle.syntax.specs.Places.{var_onto, stats_onto, defs_onto, sched_onto}
use Rattle.syntax.specs.Expecting.{on_sign}
use Rattle.syntax.specs.Yield.{yield_var, yield_exp, yield_stat, yield_stats, yield_par, yield_par_list, yield_pars}
use Rattle.syntax.specs.Yield.{yield_step, yield_steps, yield_struct, yield_defs, yield_item, yield_sched, yield}
use Rattle.syntax.specs.Bracketing.{loosest, Fits, FitsExps, FitsStat, FitsStats, FitsSteps, FitsStruct, FitsDefs, FitsProgram, Derives}
use Rattle.syntax.specs.Reading.{closed, least, extended, behind, item_wanted, item_behind, begun, step, run, whole, ended, read}
use Rattle.syntax.proofs.Laws.ExpLaws.{follows_semicolon, follows_then, Args, reads, reads_args}
use Rattle.syntax.specs.SoFar.{room}
use Rattle.syntax.proofs.Laws.SoundLaws.{read_derives}
use Rattle.syntax.specs.Unfold.{expecting, leaf_tokens}

-- Statements -----------------------------------------------------------------------------------

construct_args : Id → List Stat → Body → Args
unfolding step extended behind room expecting leaf_tokens
construct_args x l c =
    record {
      start = at_construct l c x;
      place = λ es. in_construct x es l c;
      outer = λ es. refl;
      finish = λ es. at_semicolon l c x es;
      empty = refl;
      enter = λ t n. n _ _;
      more = λ es e. refl;
      last = λ es e. refl;
    }

abbrev ReadsStat : Stat → Type 0
ReadsStat t = (l : List Stat) (c : Body) (k : List Token) → run (at_stats l c) (yield_stat t k) ≡ run (at_stats (t ∷ l) c) k

abbrev ReadsStats : Stats → Type 0
ReadsStats b = (l : List Stat) (c : Body) (k : List Token) → run (at_stats l c) (yield_stats b (sign rbrace ∷ k)) ≡ run (closed (stats_onto l b) c) k

reads_if : (e : Exp) (b : Stats) → Fits loosest e → ReadsStats b → ReadsStat (if_then e b)
unfolding yield_stat run step extended behind room least closed stats_onto expecting leaf_tokens
reads_if e b f r l c k =
    reads e loosest f (in_if l c) (word w_then) (sign lbrace ∷ yield_stats b (sign rbrace ∷ k)) follows_then (omega arith) (omega arith)
    ∙ r [] (in_then e l c) k

reads_value : (a : TypeName) (x : Id) (e : Exp) → Fits loosest e → (l : List Stat) (c : Body) (k : List Token)
    → run (want (in_assignment a x l c)) (yield_exp e (sign semicolon ∷ k)) ≡ run (at_stats (assignment a x e ∷ l) c) k
unfolding run step extended behind room least expecting leaf_tokens
reads_value a x e f l c k = reads e loosest f (in_assignment a x l c) (sign semicolon) k follows_semicolon (omega arith) (omega arith)

reads_assignment : (a : TypeName) (x : Id) (e : Exp) → Fits loosest e → ReadsStat (assignment a x e)
unfolding yield_stat run step expecting leaf_tokens
reads_assignment int_type x e f l c k = reads_value int_type x e f l c k
reads_assignment nat_type x e f l c k = reads_value nat_type x e f l c k
reads_assignment bool_type x e f l c k = reads_value bool_type x e f l c k
reads_assignment (id_type y) x e f l c k = reads_value (id_type y) x e f l c k

reads_new : (v : Var) (e : Exp) → Fits loosest e → (l : List Stat) (c : Body) (k : List Token)
    → run (want (in_update v l c)) (yield_exp e (sign semicolon ∷ k)) ≡ run (at_stats (update v e ∷ l) c) k
unfolding run step extended behind room least expecting leaf_tokens
reads_new v e f l c k = reads e loosest f (in_update v l c) (sign semicolon) k follows_semicolon (omega arith) (omega arith)

reads_path : (v : Var) (xs : List Id) (l : List Stat) (c : Body) (k : List Token)
    → run (at_dot_name l c xs) (yield_var v (sign assign ∷ k)) ≡ run (want (in_update (var_onto xs v) l c)) k
unfolding yield_var run step var_onto expecting leaf_tokens
reads_path (id x) xs l c k = refl
reads_path (dot x v) xs l c k = reads_path v (x ∷ xs) l c k

reads_update : (v : Var) (e : Exp) → Fits loosest e → ReadsStat (update v e)
unfolding yield_stat yield_var run step var_onto expecting leaf_tokens
reads_update (id x) e f l c k = reads_new (id x) e f l c k
reads_update (dot x v) e f l c k = reads_path v (x ∷ []) l c (yield_exp e (sign semicolon ∷ k)) ∙ reads_new (dot x v) e f l c k

reads_construct : (x : Id) (es : Exps) → FitsExps es → ReadsStat (construct x es)
unfolding yield_stat run step construct_args expecting leaf_tokens
reads_construct x es f l c k = reads_args es f (construct_args x l c) (sign semicolon ∷ k)

mutual
  unfolding yield_stats run step stats_onto expecting leaf_tokens

  reads_stat : (t : Stat) → FitsStat t → ReadsStat t
  reads_stat (if_then e b) f = reads_if e b f.0 (λ l c k. reads_stats b f.1 l c k)
  reads_stat (assignment a x e) f = reads_assignment a x e f
  reads_stat (update v e) f = reads_update v e f
  reads_stat (construct x es) f = reads_construct x es f

  reads_stats : (b : Stats) → FitsStats b → ReadsStats b
  reads_stats no_stats f l c k = refl
  reads_stats (stats t b) f l c k = reads_stat t f.0 l c (yield_stats b (sign rbrace ∷ k)) ∙ reads_stats b f.1 (t ∷ l) c k

-- Structs ------------------------------------------------------------------------------------------

reads_par : (x : Id) (a : TypeName) (ds : List Struct) (n : Id) (l : List Par) (k : List Token)
    → run (at_par ds n l) (yield_par (par x a) k) ≡ run (behind_par ds n l (par x a)) k
unfolding yield_par run step expecting leaf_tokens
reads_par x int_type ds n l k = refl
reads_par x nat_type ds n l k = refl
reads_par x bool_type ds n l k = refl
reads_par x (id_type y) ds n l k = refl

reads_par_list : (ps : List Par) (x : Id) (a : TypeName) (ds : List Struct) (n : Id) (l : List Par) (k : List Token)
    → run (at_par ds n l) (yield_par (par x a) (yield_par_list ps (sign rpar ∷ k))) ≡ run (at_steps_open ds n (reverse_aux l (par x a ∷ ps))) k
unfolding yield_par_list run step expecting leaf_tokens
reads_par_list [] x a ds n l k = reads_par x a ds n l (sign rpar ∷ k)
reads_par_list (par y b ∷ ps) x a ds n l k =
    reads_par x a ds n l (sign comma ∷ yield_par (par y b) (yield_par_list ps (sign rpar ∷ k)))
    ∙ reads_par_list ps y b ds n (par x a ∷ l) k

reads_pars : (ps : List Par) (ds : List Struct) (n : Id) (k : List Token) → run (at_pars ds n) (yield_pars ps (sign rpar ∷ k)) ≡ run (at_steps_open ds n ps) k
unfolding yield_pars yield_par run step expecting leaf_tokens
reads_pars [] ds n k = refl
reads_pars (par x a ∷ ps) ds n k = reads_par_list ps x a ds n [] k

reads_steps : (ts : List Step) → FitsSteps ts → (ds : List Struct) (n : Id) (ps : List Par) (l : List Step) (k : List Token)
    → run (at_steps ds n ps l) (yield_steps ts (sign rbrace ∷ k)) ≡ run (at_defs (struct n ps (reverse_aux l ts) ∷ ds)) k
unfolding yield_steps yield_step run step closed stats_onto expecting leaf_tokens
reads_steps [] f ds n ps l k = refl
reads_steps (a_step x b ∷ ts) f ds n ps l k =
    reads_stats b f.0 [] (in_step ds n ps l x) (yield_steps ts (sign rbrace ∷ k))
    ∙ reads_steps ts f.1 ds n ps (a_step x b ∷ l) k

reads_struct : (d : Struct) → FitsStruct d → (ds : List Struct) (k : List Token) → run (at_defs ds) (yield_struct d k) ≡ run (at_defs (d ∷ ds)) k
unfolding yield_struct run step begun expecting leaf_tokens
reads_struct (struct x ps ts) f ds k =
    begins ds
    ∙ reads_pars ps ds x (sign lbrace ∷ yield_steps ts (sign rbrace ∷ k))
    ∙ reads_steps ts f ds x ps [] k
  where
    begins : (ds : List Struct) → run (at_defs ds) (yield_struct (struct x ps ts) k)
        ≡ run (at_pars ds x) (yield_pars ps (sign rpar ∷ sign lbrace ∷ yield_steps ts (sign rbrace ∷ k)))
    begins [] = refl
    begins (d ∷ ds) = refl

-- the schedule begins behind the last struct
begins_item : (i : Item) (d : Struct) (ds : List Struct) (k : List Token)
    → run (at_defs (d ∷ ds)) (yield_item i k) ≡ run (at_item [] (in_program (defs_onto ds (last_struct d)))) (yield_item i k)
unfolding yield_item run step begun expecting leaf_tokens
begins_item (execution x) d ds k = refl
begins_item (typed_execution x y) d ds k = refl
begins_item (fixpoint s) d ds k = refl

begins_sched : (s : Sched) (d : Struct) (ds : List Struct) (k : List Token)
    → run (at_defs (d ∷ ds)) (yield_sched s k) ≡ run (at_item [] (in_program (defs_onto ds (last_struct d)))) (yield_sched s k)
unfolding yield_sched
begins_sched (last_item i) d ds k = begins_item i d ds k
begins_sched (barrier i s) d ds k = begins_item i d ds (op op_lt ∷ yield_sched s k)

reads_defs : (e : Defs) → FitsDefs e → (ds : List Struct) (s : Sched)
    → run (at_defs ds) (yield_defs e (yield_sched s [])) ≡ run (at_item [] (in_program (defs_onto ds e))) (yield_sched s [])
unfolding yield_defs defs_onto
reads_defs (last_struct d) f ds s = reads_struct d f ds (yield_sched s []) ∙ begins_sched s d ds []
reads_defs (defs d e) f ds s = reads_struct d f.0 ds (yield_defs e (yield_sched s [])) ∙ reads_defs e f.1 (d ∷ ds) s

-- The schedule -----------------------------------------------------------------------------------------

abbrev NoDot : Token → Type 0
NoDot t = (s z : State) → on_sign dot_sign s z t ≡ z

mutual
  unfolding yield_item yield_sched run step item_wanted item_behind sched_onto expecting leaf_tokens

  reads_item : (i : Item) (l : List Item) (r : Row) (t : Token) (k : List Token) → NoDot t → run (at_item l r) (yield_item i (t ∷ k)) ≡ run
      (item_behind l r i t) k
  reads_item (execution x) l r t k n = ap (λ s. run s k) (n _ _)
  reads_item (typed_execution x y) l r t k n = refl
  reads_item (fixpoint s) l r t k n = reads_fix s [] l r (t ∷ k)

  reads_fix : (s : Sched) (l m : List Item) (r : Row) (k : List Token)
      → run (at_item l (in_fix m r)) (yield_sched s (sign rpar ∷ k)) ≡ run (behind_item m r (fixpoint (sched_onto l s))) k
  reads_fix (last_item i) l m r k = reads_item i l (in_fix m r) (sign rpar) k (λ s z. refl)
  reads_fix (barrier i s) l m r k = reads_item i l (in_fix m r) (op op_lt) (yield_sched s (sign rpar ∷ k)) (λ s z. refl) ∙ reads_fix s (i ∷ l) m r k

ends_item : (i : Item) (l : List Item) (r : Row) → ended (run (at_item l r) (yield_item i [])) ≡ whole l r i
unfolding yield_item run step item_wanted ended sched_onto expecting leaf_tokens
ends_item (execution x) l r = refl
ends_item (typed_execution x y) l r = refl
ends_item (fixpoint s) l r = ap ended (reads_fix s [] l r [])

ends_sched : (s : Sched) (l : List Item) (d : Defs) → ended (run (at_item l (in_program d)) (yield_sched s [])) ≡ some (program d (sched_onto l s))
unfolding yield_sched sched_onto whole item_behind expecting leaf_tokens
ends_sched (last_item i) l d = ends_item i l (in_program d)
ends_sched (barrier i s) l d = ap ended (reads_item i l (in_program d) (op op_lt) (yield_sched s []) (λ s z. refl)) ∙ ends_sched s (i ∷ l) d

-- The statements ------------------------------------------------------------------------------------------

read_yield : (c : Program) → FitsProgram c → read (yield c) ≡ some c
unfolding read yield defs_onto sched_onto
read_yield (program d s) f = ap ended (reads_defs d f [] s) ∙ ends_sched s [] d

pub derives_read : (ts : List Token) (c : Program) → Derives ts c → read ts ≡ some c
derives_read ts c d = rw (← d.yields) (read_yield c d.fits)

-- tokens are read as a derivation exactly where it derives them
pub derived_exact : (ts : List Token) (c : Program) → (read ts ≡ some c) ↔ Derives ts c
derived_exact ts c = (read_derives ts c, derives_read ts c)

-- and there is one derivation at most
pub one_derivation : (ts : List Token) (c d : Program) → Derives ts c → Derives ts d → c ≡ d
one_derivation ts c d p q = let e = derives_read ts c p in let f = derives_read ts d q in cc
