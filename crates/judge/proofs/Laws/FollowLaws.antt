-- Laws of statements, arguments and items in a row (01, numbers 6 to 8): none before others and none behind them changes nothing, and
-- which of them are taken together first does not matter. So they can be totalled up from the first on.
use Rattle.std.specs.Prelude.{ℕ, suc, ◌+◌, ◌≤◌, max, Bool, true, false, ◌≡◌, List, eqb, ltb}
use Rattle.std.proofs.Common.{arith, sym, ◌∙◌, eqb-true, ltb-true, ltb-false}
use Rattle.std.proofs.Math.Path.{refl}
use Rattle.program.specs.Tree.{Expr, Exprs}
use Rattle.program.specs.Tree.{Exprs.none, Exprs.more, Stmt, Stmt.when, Stmt.declare, Stmt.update, Stmt.create, Stmts, Stmts.end, Stmts.next}
use Rattle.commands.proofs.Laws.DepthLaws.{peak_pos}
use Rattle.judge.specs.declared.Facts.{Facts}
use Rattle.judge.specs.declared.Scope.{Scope}
use Rattle.judge.specs.declared.Done.{Done}
use Rattle.judge.specs.ProgramFacts.{Planned, plan, joined}
use Rattle.judge.specs.Facts.{facts, demand, no_args, argued, appended, expr_facts, args_facts}
use Rattle.judge.specs.Facts.{worst, nothing, branched, declared, updated, created, followed, stmt_facts, body_facts}
use Rattle.judge.proofs.Laws.SizeFactsLaws.{expr_facts_peak}

-- the worse of two faults, by which of them are there
module _ (a b : ℕ) where
  none_first : eqb a 0 ≡ true → worst a b ≡ b
  unfolding worst
  none_first p = rw (p, worst)

  none_second : eqb a 0 ≡ false → eqb b 0 ≡ true → worst a b ≡ a
  unfolding worst
  none_second p q = rw (p, q, worst)

  first : eqb a 0 ≡ false → eqb b 0 ≡ false → ltb a b ≡ true → worst a b ≡ a
  unfolding worst
  first p q u = rw (p, q, u, worst)

  second : eqb a 0 ≡ false → eqb b 0 ≡ false → ltb a b ≡ false → worst a b ≡ b
  unfolding worst
  second p q u = rw (p, q, u, worst)

pub worst_nothing : (f : ℕ) → worst f 0 ≡ f
worst_nothing f = go (eqb f 0) refl
  where
    go : (b : Bool) → eqb f 0 ≡ b → worst f 0 ≡ f
    go true e = none_first f 0 e ∙ sym (eqb-true f 0 e)
    go false e = none_second f 0 e refl

-- and of three
pub worst_assoc : (a b d : ℕ) → worst (worst a b) d ≡ worst a (worst b d)
worst_assoc a b d = go (eqb a 0) refl (eqb b 0) refl (eqb d 0) refl (ltb a b) refl (ltb b d) refl (ltb a d) refl
  where
    go : (p : Bool) → eqb a 0 ≡ p → (q : Bool) → eqb b 0 ≡ q → (r : Bool) → eqb d 0 ≡ r → (u : Bool) → ltb a b ≡ u → (v : Bool) → ltb b d ≡ v
        → (w : Bool) → ltb a d ≡ w → worst (worst a b) d ≡ worst a (worst b d)
    go true p _ q _ r _ u _ v _ w = rw (none_first a b p) (sym (none_first a (worst b d) p))
    go false p true q _ r _ u _ v _ w = rw (none_second a b p q, none_first b d q)
    go false p false q true r true u _ v _ w = rw (none_second b d q r, first a b p q u) (none_second a d p r)
    go false p false q true r false u _ v _ w = rw (none_second b d q r, second a b p q u) (none_second b d q r)
    go false p false q false r true u true v true w = rw (first b d q r v, first a b p q u) (first a d p r w)
    go false p false q false r true u true v false w =
        let x = ltb-true a b u in let y = ltb-true b d v in let z = ltb-false a d w in absurd (omega arith)
    go false p false q false r true u false v _ w = rw (first a b p q u, second b d q r v)
    go false p false q false r false u true v _ w = rw (first b d q r v, second a b p q u) (first b d q r v)
    go false p false q false r false u false v true w =
        let x = ltb-false a b u in let y = ltb-false b d v in let z = ltb-true a d w in absurd (omega arith)
    go false p false q false r false u false v false w = rw (second a b p q u, second b d q r v) (sym (second a d p r w))

pub followed_assoc : (a b d : Done) → followed (followed a b) d ≡ followed a (followed b d)
unfolding followed
followed_assoc a b d =
    let s : a.size + b.size + d.size ≡ a.size + (b.size + d.size) = omega arith in
    let g : a.growth + b.growth + d.growth ≡ a.growth + (b.growth + d.growth) = omega arith in
    let h : max (max a.height (a.growth + b.height)) (a.growth + b.growth + d.height)
    ≡ max a.height (a.growth + max b.height (b.growth + d.height)) = omega arith in
    rw (s, g, h, worst_assoc a.fault b.fault d.fault)

-- none before others
pub nothing_followed : (c : Scope) (b : Done) → followed (nothing c) b ≡ b
unfolding followed worst
nothing_followed c b =
    let h : max 0 (0 + b.height) ≡ b.height = omega arith in
    let s : 0 + b.size ≡ b.size = omega arith in
    let g : 0 + b.growth ≡ b.growth = omega arith in
    rw (s, g, h)

-- none behind them, where they are as high as the labels that they leave
pub followed_nothing : (a : Done) → a.growth ≤ a.height → followed a (nothing a.after) ≡ a
unfolding followed
followed_nothing a l =
    let h : max a.height (a.growth + 0) ≡ a.height = omega arith in
    let s : a.size + 0 ≡ a.size = omega arith in
    let g : a.growth + 0 ≡ a.growth = omega arith in
    rw (h, s, g, worst_nothing a.fault)

-- and they are: a label that stays was pushed
module _ (ar types : List ℕ) (own : ℕ) where
  mutual
    unfolding stmt_facts body_facts branched declared updated created followed

    pub stmt_low : (t : Stmt) (c : Scope) → (stmt_facts ar types own t c).growth ≤ (stmt_facts ar types own t c).height
    stmt_low (when e b) c = let h = body_low b c in omega arith
    stmt_low (declare t x e) c = omega arith
    stmt_low (update v vs e) c = omega arith
    stmt_low (create k es) c = omega arith

    pub body_low : (b : Stmts) (c : Scope) → (body_facts ar types own b c).growth ≤ (body_facts ar types own b c).height
    body_low end c = omega arith
    body_low (next t b) c = let h = body_low b (stmt_facts ar types own t c).after in omega arith

-- Arguments -------------------------------------------------------------------------

-- x arguments, and others behind them
abbrev pub behind : ℕ → Facts → Facts → Facts
behind x a g = facts (a.size + g.size) (max a.peak (x + g.peak)) (worst a.fault g.fault) 0

pub behind_argued : (x t : ℕ) (a f g : Facts) → behind x a (argued t f g) ≡ behind (suc x) (appended x t a f) g
unfolding argued appended
behind_argued x t a f g =
    let s : a.size + (f.size + g.size) ≡ a.size + f.size + g.size = omega arith in
    let h : max a.peak (x + max f.peak (suc g.peak)) ≡ max (max a.peak (x + f.peak)) (suc x + g.peak) = omega arith in
    rw (s, h, worst_assoc a.fault (demand f.fault (eqb f.typ t)) g.fault)

-- no arguments before others, whose type field is not used
pub none_behind : (g : Facts) → g.typ ≡ 0 → behind 0 no_args g ≡ g
unfolding worst
none_behind g e =
    let s : 0 + g.size ≡ g.size = omega arith in
    let h : max 0 (0 + g.peak) ≡ g.peak = omega arith in
    rw (s, h, e)

-- none behind them, where the stack is as high as there are arguments
pub behind_none : (x : ℕ) (a : Facts) → x ≤ a.peak → a.typ ≡ 0 → behind x a no_args ≡ a
behind_none x a l e =
    let s : a.size + 0 ≡ a.size = omega arith in
    let h : max a.peak (x + 0) ≡ a.peak = omega arith in
    rw (s, h, worst_nothing a.fault, e)

module _ (ar types : List ℕ) (own w : ℕ) where
  -- the type field of arguments; and an expression pushes its value
  pub args_typ : (es : Exprs) (k x : ℕ) → (args_facts ar types own w es k x).typ ≡ 0
  unfolding args_facts argued
  args_typ none k x = refl
  args_typ (more e es) k x = refl

  pub expr_high : (e : Expr) → 1 ≤ (expr_facts ar types own w e).peak
  expr_high e = rw (expr_facts_peak ar types own w e) (peak_pos e)

-- Items -----------------------------------------------------------------------------

pub joined_assoc : (a b d : Planned) → joined (joined a b) d ≡ joined a (joined b d)
unfolding joined
joined_assoc a b d =
    let s : a.count + b.count + d.count ≡ a.count + (b.count + d.count) = omega arith in
    rw (s, worst_assoc a.fault b.fault d.fault)

pub none_joined : (b : Planned) → joined (plan 0 0) b ≡ b
unfolding joined worst
none_joined b = let s : 0 + b.count ≡ b.count = omega arith in rw s

pub joined_none : (a : Planned) → joined a (plan 0 0) ≡ a
unfolding joined
joined_none a = let s : a.count + 0 ≡ a.count = omega arith in rw (s, worst_nothing a.fault)
