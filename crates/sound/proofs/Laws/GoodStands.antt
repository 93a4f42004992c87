-- Every machine with the invariant stands for a published configuration (000, definition 4): wherever a way leads among a step's commands,
-- those left are the flat list of nested ones.
use Rattle.std.specs.Prelude.{ℕ, ◌≡◌, List, [], ◌∷◌, ◌++◌, map, length, drop}
use Rattle.std.proofs.Math.Path.{refl, ap, subst}
use Rattle.std.proofs.Common.{sym, ◌∙◌, append-nil}
use Rattle.std.proofs.Math.Option.{Option, some}
use Rattle.std.proofs.lemmas.List.{map-append}
use Rattle.std.proofs.Math.ListN.{get_elem?}
use Rattle.std.proofs.Math.Seq.{drop-append_seam}
use Rattle.program.specs.Tree.{Stmts, Program}
use Rattle.commands.specs.Commands.{Com, Coms, Coms.nil, then, body_coms, Flat, Flat.plain, Flat.if_n, flatten, commands}
use Rattle.commands.specs.Context.{Ctx, context}
use Rattle.commands.specs.Noted.{Note, Note.n_push, Note.n_this, Note.n_not, Note.n_rd, Note.n_wr, Note.n_get, Note.n_set, Note.n_cons, Note.n_op, Note.n_if}
use Rattle.commands.specs.Noted.{erase, noted}
use Rattle.commands.specs.Tags.{Tags, jump, at_start, Way, Way.start, Way.on, Way.over}
use Rattle.commands.proofs.Laws.CommandLaws.{flatten_app}
use Rattle.commands.proofs.Laws.NotedLaws.{erased}
use Rattle.machine.specs.Published.{Inst, Inst.inst, State.state}
use Rattle.machine.specs.Machine.{Instance, Machine}
use Rattle.machine.specs.Represents.{values, RepresentsInst, RepresentsAll}
use Rattle.types.proofs.Laws.ListLaws.{map_drop}
use Rattle.machine.specs.Heads.{plain_head, if_head}
use Rattle.run.specs.Runs.{Config, Config.config, StandsFor}
use Rattle.sound.specs.Invariant.{Job, InJob, InJob.in_call, Place, Place.resting, Place.passing, Good}

-- these are the flat list of nested commands
abbrev Nested : List Note → Type 0
Nested c = (d : Coms) × (map erase c ≡ flatten d)

-- those after a plain command,
plain_rest : (f : Com) (r : List Flat) (d : Coms) → plain f ∷ r ≡ flatten d → (e : Coms) × (r ≡ flatten e)
plain_rest f r d e = let (c, q, h) = plain_head d f r e in (c, h)

-- of two in a row,
flat_then : (b c : Coms) → flatten (then b c) ≡ flatten b ++ flatten c
flat_then b c = sym (append-nil (flatten (then b c))) ∙ flatten_app b c [] ∙ ap (λ s. flatten b ++ s) (append-nil (flatten c))

-- and after an if: with its body, and past it
if_in : (n : ℕ) (r : List Flat) (d : Coms) → if_n n ∷ r ≡ flatten d → (e : Coms) × (r ≡ flatten e)
if_in n r d e =
    let (b, c, q, h, w) = if_head d n r e in
    (then b c, w ∙ sym (flat_then b c))

if_past : (n : ℕ) (r : List Flat) (d : Coms) → if_n n ∷ r ≡ flatten d → (e : Coms) × (drop n r ≡ flatten e)
if_past n r d e =
    let (b, c, q, h, w) = if_head d n r e in
    (c, ap (λ (k : ℕ). drop k r) h ∙ ap (drop (length (flatten b))) w ∙ drop-append_seam (flatten b) (flatten c))

-- a command that is no if leads to one place alone
one_way : (c : List Note) → Nested c → (Nested c) × (Nested c)
one_way c q = (q, q)

-- so are those after any command: the next ones, and those after an if's body
nested_on : (n : Note) (c : List Note) → Nested (n ∷ c) → (Nested c) × (Nested (drop (jump n) c))
unfolding erase
nested_on (n_push t v) c (d, e) = one_way c (plain_rest _ (map erase c) d e)
nested_on n_this c (d, e) = one_way c (plain_rest _ (map erase c) d e)
nested_on n_not c (d, e) = one_way c (plain_rest _ (map erase c) d e)
nested_on (n_rd k x) c (d, e) = one_way c (plain_rest _ (map erase c) d e)
nested_on (n_wr k x) c (d, e) = one_way c (plain_rest _ (map erase c) d e)
nested_on (n_get t x) c (d, e) = one_way c (plain_rest _ (map erase c) d e)
nested_on (n_set b t x) c (d, e) = one_way c (plain_rest _ (map erase c) d e)
nested_on (n_cons k) c (d, e) = one_way c (plain_rest _ (map erase c) d e)
nested_on (n_op o) c (d, e) = one_way c (plain_rest _ (map erase c) d e)
nested_on (n_if j) c (d, e) =
    let (f, q) = if_past j (map erase c) d e in
    (if_in j (map erase c) d e, (f, map_drop erase j c ∙ q))

-- so are those at every place that a way leads to,
way_nested : (G : Ctx) (b : Stmts) {c : List Note} {x : Tags} → Way G (noted G b) at_start c x → Nested c
unfolding commands
way_nested G b start = (body_coms b, erased G b)
way_nested G b (on {n = n} {c = c} w) = (nested_on n c (way_nested G b w)).0
way_nested G b (over {n = n} {c = c} w) = (nested_on n c (way_nested G b w)).1

-- with those in the list after the step's
nested_join : (c d : List Note) → Nested c → Nested d → Nested (c ++ d)
nested_join c d (x, e) (y, f) =
    (then x y, map-append erase c d ∙ ap (λ r. r ++ map erase d) e ∙ ap (λ r. flatten x ++ r) f ∙ sym (flat_then x y))

none_nested : Nested []
unfolding flatten
none_nested = (nil, refl)

rest_nested : {p : Program} {k : ℕ} {a : Job} {b : Stmts} {r : List Note} → InJob p k a b r → Nested r
rest_nested (in_call e) = none_nested

module _ {p : Program} {r : Option Job} where
  -- an instance that stands where it may stands for a published one
  inst_stands : {is : List Instance} {l : ℕ} {i : Instance} → Place p r is l i → (j : Inst) × (RepresentsInst i j)
  unfolding flatten
  inst_stands {i = i} (resting c χ) = (inst i.struct nil (values i.stack) i.env, (refl, ap (map erase) c, refl, refl))
  inst_stands {i = i} (passing g h) =
      let held = way_nested (context p i.struct g.body) g.body g.way in
      let (d, e) = subst Nested (sym g.code) (nested_join g.held g.rest held (rest_nested g.has)) in
      (inst i.struct d (values i.stack) i.env, (refl, e, refl, refl))

all_stand : (is : List Instance) → ((l : ℕ) (i : Instance) → get_elem? is l ≡ some i → (j : Inst) × (RepresentsInst i j))
    → (σ : List Inst) × (RepresentsAll is σ)
all_stand [] f = ([], tt)
all_stand (i ∷ is) f =
    let (j, R) = f 0 i refl in
    let (σ, S) = all_stand is (λ l i e. f (ℕ.suc l) i e) in
    (j ∷ σ, (R, S))

-- a machine with the invariant stands for a configuration
pub good_stands : {p : Program} {m : Machine} → Good p m → (c : Config) × (StandsFor m c)
good_stands {p} {m} g =
    let (σ, R) = all_stand m.instances (λ l i e. inst_stands (g.all.each l i e).place) in
    (config m.from (state m.sched σ m.stability), (refl, (refl, R, refl)))
