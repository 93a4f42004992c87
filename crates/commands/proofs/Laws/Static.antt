-- A step whose names and types are right is secure on every way through its commands (01, 'The words of demand 3').
use Rattle.std.specs.Prelude.{ℕ, ◌≤◌, ◌≡◌, Bool, true, length}
use Rattle.std.proofs.Common.{arith, length-append, drop_at}
use Rattle.std.proofs.Math.Path.{refl, ap}
use mathlib.Core.List.{List, [], ◌∷◌, ◌++◌, reverse, reverse_aux, reverse_aux-eq, Memᴰ}
use Rattle.std.proofs.Math.Bool.{false}
use Rattle.std.proofs.lemmas.List.{length-reverse}
use Rattle.types.specs.Types.{Ty, Ty.int, Ty.nat, Ty.bool, Ty.ref}
use Rattle.types.specs.Values.{value_of, default}
use Rattle.program.specs.Tree.{Var, Expr, Expr.inv, Expr.make, Expr.path, Expr.int_lit, Expr.nat_lit, Expr.bool_lit, Expr.null, Expr.self, Expr.op}
use Rattle.program.specs.Tree.{Exprs, Exprs.none, Exprs.more, Stmt, Stmts, Program}
use Rattle.commands.specs.Context.{Ctx, params_of, context, typ}
use Rattle.commands.specs.Names.{Starts, Names, NamesAll, declares, live_after, NamedStmt, Named}
use Rattle.commands.specs.Typing.{Leads, Leads.arrived, Leads.onward, Reaches, Reaches.from_own, Reaches.from_local, Types, TypesAll}
use Rattle.commands.specs.Typing.{TypesAll.t_none, TypesAll.t_more, TypedStmt, TypedStmt.t_when, TypedStmt.t_declare, TypedStmt.t_update}
use Rattle.commands.specs.Typing.{TypedStmt.t_create, Typed, Typed.t_end, Typed.t_next}
use Rattle.types.specs.TypeBytes.{struct_of}
use Rattle.commands.specs.Noted.{Note, Note.n_push, Note.n_this, Note.n_not, Note.n_rd, Note.n_wr, Note.n_get, Note.n_set, Note.n_cons}
use Rattle.commands.specs.Noted.{Note.n_op, Note.n_if, walk, store, read_path, write_path, note_expr, note_exprs, note_stmt, note_body, noted}
use Rattle.commands.specs.Noted.{now_written}
use Rattle.commands.specs.Tags.{tags, stack_after, is_this, Asks, jump}
use Rattle.commands.specs.Living.{live_walk, live_expr, live_exprs, live_stmt, live_body, lives, alive, Among}
use Rattle.commands.proofs.Laws.LivingLaws.{live_out}
use Rattle.commands.specs.Locals.{Declaration, Declaration.itself, Declaration.inside, DeclarationIn.first, DeclarationIn.later, LocalsRight}
use Rattle.commands.proofs.Laws.LocalsLaws.{declared_type}
use Rattle.commands.proofs.Laws.NotedLaws.{left_out, note_body_app}
use Rattle.commands.proofs.Laws.StaticParts.{live_on, stays, result_of, parts}
use Rattle.commands.specs.Secure.{Secure, Secure.stop, Secure.act}

-- an if's body is no longer than what it stands in front of together with it
body_within : (b : Stmts) (G : Ctx) (c : List Note) → length (note_body b G []) ≤ length (note_body b G c)
body_within b G c = let h = note_body_app b G [] c in rw (h, length-append) (omega arith)

same : (l : List ℕ) → Among l l
same l x m = m

module _ (G : Ctx) where
  -- a command with one way on
  one : (n : Note) {c : List Note} {l : List ℕ} {ls : List (List ℕ)} {χ : List Ty} {f : Bool} → jump n ≡ 0 → Asks G n (tags χ l f)
      → Among (alive ls) (now_written n l) → Secure G c ls (stack_after G n χ) (is_this n) → Secure G (n ∷ c) (l ∷ ls) χ f
  one n {c = c} e a g s =
      let within : jump n ≤ length c = omega arith in
      act n a within g s (rw e g) (rw e s)

  -- secure from this stack, where l are written, whatever the last command was
  abbrev From : List Note → List (List ℕ) → List Ty → List ℕ → Type 0
  From c ls χ l = (Among (alive ls) l) × ((f : Bool) → Secure G c ls χ f)

  -- and from every stack: what statements leave behind is never read
  abbrev Ok : List Note → List (List ℕ) → List ℕ → Type 0
  Ok c ls l = (χ : List Ty) → From c ls χ l

  module _ {c : List Note} {ls : List (List ℕ)} {χ : List Ty} {l : List ℕ} where
    walks : {t u : Ty} {xs : List ℕ} → Leads G t xs u → From c ls (u ∷ χ) l → From (walk G t xs c) (live_walk l xs ls) (t ∷ χ) l
    unfolding walk live_walk struct_of now_written
    walks arrived k = k
    walks (onward {k = j} {x = x} i d) k = let r = walks d k in (same l, λ f. one (n_rd j x) refl (i, (χ, refl)) r.0 (r.1 false))

    stores : {t u : Ty} (x : ℕ) (xs : List ℕ) → Leads G t (x ∷ xs) u → From c ls χ l → From (store G t x xs c) (l ∷ live_walk l xs ls) (t ∷ u ∷ χ) l
    unfolding store live_walk struct_of now_written
    stores x [] (onward {k = j} i d) k =
        (same l, λ f. one (n_wr j x) refl (i, (χ, ap (λ v. ref j ∷ v ∷ χ) (stays d))) k.0 (k.1 false))
    stores x (y ∷ ys) (onward {k = j} i d) k = let r = stores {t = typ G j x} y ys d k in (same l, λ f. one (n_rd j x) refl (i, (_, refl)) r.0 (r.1 false))

    gets : (x : ℕ) → Memᴰ x l → From c ls (G.local x ∷ χ) l → From (n_this ∷ n_get (G.local x) x ∷ c) (l ∷ l ∷ ls) χ l
    unfolding now_written
    gets x m k =
        (same l, λ f. one n_this refl tt (same l) (one (n_get (G.local x) x) refl (refl, refl, m, (χ, refl)) k.0 (k.1 false)))

    conses : (j : ℕ) → From c ls (ref j ∷ χ) l → From (n_cons j ∷ c) (l ∷ ls) (reverse_aux (G.params j) χ) l
    unfolding now_written
    conses j k =
        let ts = G.params j in
        (same l, λ f. rw (reverse_aux-eq ts χ) (one (n_cons j) refl (χ, refl) k.0 (rw (drop_at (reverse ts) χ (length ts) (length-reverse ts)) (k.1 false))))

  module _ {c : List Note} {ls : List (List ℕ)} {χ : List Ty} {l : List ℕ} where
    reads : {v : Var} {vs : List ℕ} {t : Ty} (n : ℕ) → Reaches G v vs t → Starts n l v → From c ls (t ∷ χ) l
        → From (read_path G v vs c) (l ∷ l ∷ live_walk l vs ls) χ l
    unfolding read_path now_written live_walk
    reads n (from_own d) m k = let r = walks d k in (same l, λ f. one n_this refl tt r.0 (r.1 true))
    reads n (from_local {x = x} d) m k = gets x m (walks d k)

    writes : {v : Var} {vs : List ℕ} {t : Ty} (n : ℕ) → Reaches G v vs t → Starts n l v → From c ls χ l
        → From (write_path G v vs c) (l ∷ l ∷ live_walk l vs ls) (t ∷ χ) l
    unfolding write_path now_written live_walk
    writes n (from_own {x = x} {xs = xs} d) m k = let r = stores x xs d k in (same l, λ f. one n_this refl tt r.0 (r.1 true))
    writes n (from_local {x = x} {xs = []} d) m k = (
      same l,
      λ f.
          one n_this refl tt (same l)
          (one (n_set false (G.local x) x) refl (refl, refl, m, (χ, ap (λ v. ref G.own ∷ v ∷ χ) (stays d))) k.0 (k.1 false)),
    )
    writes n (from_local {x = x} {xs = y ∷ ys} d) m k = gets x m (stores y ys d k)

  -- n parameters, at the locals l alive
  module _ (n : ℕ) {l : List ℕ} where
    leaf : (m : Note) {c : List Note} {ls : List (List ℕ)} {χ : List Ty} {t : Ty} → jump m ≡ 0 → ((f : Bool) → Asks G m (tags χ l f))
        → now_written m l ≡ l → stack_after G m χ ≡ t ∷ χ → From c ls (t ∷ χ) l → From (m ∷ c) (l ∷ ls) χ l
    leaf m e a w q k = (same l, λ f. one m e (a f) (rw w k.0) (rw q (k.1 (is_this m))))

    -- an expression of type t is secure where what follows is secure with t on top
    mutual
      unfolding note_expr live_expr Names now_written

      expr : (e : Expr) {t : Ty} {c : List Note} {ls : List (List ℕ)} {χ : List Ty} → Types G e t → Names e n l → From c ls (t ∷ χ) l
          → From (note_expr e G c) (live_expr e l ls) χ l
      expr (inv e) d m k =
          let (q, d') = parts G d in
          expr e d' m (same l, λ f. one n_not refl (_, refl) k.0 (rw q at (k.1 false)))
      expr (make j es) d m k =
          let (q, d') = parts G d in
          exprs es d' m (conses j (rw q at k))
      expr (path v vs) d m k = reads n (parts G d) m k
      expr (int_lit x) d m k = leaf (n_push int (value_of int x)) refl (λ f. tt) refl (rw (parts G d)) k
      expr (nat_lit x) d m k = leaf (n_push nat (value_of nat x)) refl (λ f. tt) refl (rw (parts G d)) k
      expr (bool_lit x) d m k = leaf (n_push bool (value_of bool x)) refl (λ f. tt) refl (rw (parts G d)) k
      expr (null u) d m k = leaf (n_push u (default u)) refl (λ f. tt) refl (rw (parts G d)) k
      expr self d m k = leaf n_this refl (λ f. tt) refl (rw (parts G d)) k
      expr (op o a b) {t = u} d m k =
          let (t, r, da, db) = parts G d in
          expr a da m.0 (expr b db m.1 (same l, λ f. one (n_op o) refl (t, u, r, (_, refl)) k.0 (rw (result_of r) at (k.1 false))))

      exprs : (es : Exprs) {ts : List Ty} {c : List Note} {ls : List (List ℕ)} {χ : List Ty} → TypesAll G es ts → NamesAll es n l
          → From c ls (reverse_aux ts χ) l → From (note_exprs es G c) (live_exprs es l ls) χ l
      exprs none t_none m k = k
      exprs (more e es) (t_more d ds) m k = expr e d m.0 (exprs es ds m.1 k)

  -- a statement is secure from every stack where what follows is; statements too
  module _ (n : ℕ) where
    mutual
      unfolding note_stmt live_stmt NamedStmt now_written

      stmt : {s : Stmt} {c : List Note} {ls : List (List ℕ)} {l : List ℕ} → ((x : ℕ) (t : Ty) → Declaration s x t → t ≡ G.local x) → TypedStmt G s
          → (seen : List ℕ) → NamedStmt s n l seen → Ok c ls (live_after s l) → Ok (note_stmt s G c) (live_stmt s l ls) l
      stmt {c = c} {ls = ls} {l = l} right (t_when {e = e} {b = b} d db) seen m k χ =
          let inner = body (λ x t p. right x t (inside p)) db seen m.1 k χ in
          expr n e d m.0 (
            same l,
            λ f.
                act (n_if _) (χ, refl) (body_within b G c) inner.0 (inner.1 false) (rw (live_out b G l ls) (k χ).0)
                (rw (left_out b G c, live_out b G l ls) ((k χ).1 false)),
          )
      stmt {l = l} right (t_declare {t = t} {x = x} {e = e} d) seen m k χ =
          expr n e d m.0
          (same l, λ f. one n_this refl tt (same l) (one (n_set true t x) refl (refl, right x t itself, (χ, refl)) (k χ).0 ((k χ).1 false)))
      stmt right (t_update {v = v} {e = e} r d) seen m k χ = expr n e d m.1 (writes n r m.0 (k χ))
      stmt right (t_create {k = j} {es = es} d) seen m k χ = exprs n es d m (conses j (k (ref j ∷ χ)))

      body : {b : Stmts} {c : List Note} {ls : List (List ℕ)} {l : List ℕ} → LocalsRight G b → Typed G b → (seen : List ℕ) → Named b n l seen
          → Ok c ls l → Ok (note_body b G c) (live_body b l ls) l
      body right t_end seen m k χ = k χ
      body {l = l} right (t_next {s = s} d ds) seen m k χ =
          stmt (λ x t p. right x t (first p)) d seen m.0
          (body (λ x t p. right x t (later p)) ds (declares s ++ seen) m.1 (λ χ. (λ x q. live_on s l x ((k χ).0 x q), (k χ).1))) χ

-- a step with right names and types is secure, and nothing lives at its start
pub secure_step : (p : Program) (k : ℕ) (b : Stmts) → Typed (context p k b) b → Named b (length (params_of p k)) [] []
    → (Among (alive (lives b)) []) × (Secure (context p k b) (noted (context p k b) b) (lives b) [] false)
unfolding noted lives
secure_step p k b d m =
    let w = body (context p k b) (length (params_of p k)) (declared_type p k b (length (params_of p k)) m) d [] m (λ χ. (λ x q. q, λ f. stop)) [] in
    (w.0, w.1 false)
