-- What the code has of a statement that was read, one law for each kind (01, 'Program stream'; 000, definition 2).
use Prim.Native.Nat.{ℕ, zero, suc, ◌+◌, ◌-◌, ◌<◌}
use native.Mathlib.Omega.{arith}
use Rattle.std.proofs.Math.Numerals.{sub-one}
use Rattle.std.proofs.Common.{add-one, ap, ◌∙◌}
use Rattle.std.specs.Prelude.{◌≡◌, length, get_or, set}
use Rattle.std.proofs.Math.Path.{refl, sym}
use mathlib.Core.List.{List, [], ◌∷◌, append-nil}
use Rattle.std.proofs.lemmas.List.Edits.{sets}
use Rattle.types.specs.Limits.{max_statements, expr_levels}
use Rattle.types.specs.Types.{Ty}
use Rattle.program.specs.Tree.{Expr, Stmt, Stmt.when, Stmt.declare, Stmt.update, Stmt.create, Stmts, Stmts.end, Stmts.next}
use Rattle.program.specs.Reader.{Result, Result.ok, Result.bad, wrong_byte, then, pair, made, lookup, Kind, Kind.kind_when, Kind.kind_declare}
use Rattle.program.specs.Reader.{Kind.kind_update, Kind.kind_create, Kind.kind_none, kind, read_type, read_local, read_path, read_expr, read_body}
use Rattle.program.specs.Reader.{read_when, read_declare, read_update, rule_stmt, read_stmt}
use Rattle.program.proofs.Laws.PartLaws.{told_is}
use Rattle.program.proofs.Laws.WordLaws.{type_exact, local_exact}
use Rattle.program.proofs.Laws.StmtLaws.{OpensStmt, opens_stmt}
use Rattle.commands.specs.Coding.{coded}
use Rattle.emit.specs.declared.Put.{Put}
use Rattle.emit.specs.Written.{Good, next_of, code_of, Ready, Wrote, expr_words, make_words, target_words, stmt_words, body_words, when_words}
use Rattle.emit.specs.Written.{block_words, declare_words, update_words, make_at, stmts_at, body_at, when_at}
use Rattle.emit.specs.Laws.WrittenLaws.{set_sets, placed_one, placed_first, placed_as}
use Rattle.emit.specs.Laws.WordLaws.{if_words, updating_words, declaring_words, when_is, declare_is, update_is, create_is, no_stmts, more_stmts}
use Rattle.emit.specs.Laws.ReadLaws.{value, pair_value, pair_ok, one_stands, counted_value, opened_value}
use Rattle.emit.specs.Laws.PathLaws.{path_facts}
use Rattle.emit.specs.Parts.{Part, Parts, Rest}
use Rattle.emit.specs.Laws.PartsLaws.{part_of, part_wrote, same_part, made_part, parts_of, rest_ready, rest_next, rest_none}
use Rattle.commands.specs.CommandKinds.{if_kind, this_kind, wr_kind}

-- a declaration: its type's byte and its local stand before the expression
pub record DeclareFacts (ar s : List ℕ) (at : ℕ) : Type 0 where
  pub inside : at + 1 < length s
  pub part : Part declare_words (read_declare ar s at) expr_words (read_expr ar s 16 (at + 2)) (coded this_kind 0 0 ∷ coded wr_kind 0 (get_or s (at + 1) 0) ∷ [])

-- a declaration that was read has them
pub declare_facts : (ar s : List ℕ) (at : ℕ) → Good (read_declare ar s at) → DeclareFacts ar s at
unfolding read_declare
declare_facts ar s at g =
    let v = pair_value (read_type s (length ar) at) (λ t k. pair (read_local s k) λ x. read_expr ar s expr_levels) g in
    let w = pair_value (read_local s v.1) (λ x. read_expr ar s expr_levels) (rw v.5 tt) in
    go v.0 v.1 w.0 w.1 w.2 w.3 v.4 w.4 w.5
  where
    go : (t : Ty) (k x l : ℕ) (e : Expr) (m : ℕ) → read_type s (length ar) at ≡ ok t k → read_local s k ≡ ok x l
        → read_expr ar s expr_levels l ≡ ok e m → DeclareFacts ar s at
    go t k x l e m p q r =
        let y = one_stands (told_is ((type_exact (length ar)).sound s at) p).1 in
        let z = one_stands (told_is (local_exact.sound s k) q).1 in
        let i : k ≡ at + 1 = y.2 in
        let j : l ≡ at + 2 = omega (arith, z.2) in
        record {
          inside = omega (arith, z.0);
          part =
              rw (← i, z.1)
              (part_of declare_words expr_words
              (pair_ok (λ t k. pair (read_local s k) λ x. read_expr ar s expr_levels) p (pair_ok (λ x. read_expr ar s expr_levels) q r))
              (rw j at r) (declaring_words t x e));
        }

-- an update: the path stands before the expression
pub update_part : (ar s : List ℕ) (at : ℕ) → Good (read_update ar s at)
    → (Good (read_path s at))
    × (Part update_words (read_update ar s at) expr_words (read_expr ar s 16 (at + 1 + get_or s at 0)) (code_of target_words (read_path s at)))
unfolding read_update code_of next_of
update_part ar s at g =
    let v = pair_value (read_path s at) (λ p. read_expr ar s expr_levels) g in
    let h : Good (read_path s at) = rw v.4 tt in
    let i : v.1 ≡ at + 1 + get_or s at 0 = ap next_of (sym v.4) ∙ (path_facts s at h).next in
    let c : code_of target_words (read_path s at) ≡ target_words v.0 = ap (code_of target_words) v.4 in
    (h, rw c (part_of update_words expr_words v.6 (rw i at v.5) (updating_words v.0.0 v.0.1 v.2)))

-- an if: its condition and then its block
pub when_parts : (ar s : List ℕ) (d at : ℕ) → Good (when_at ar s d at)
    → Parts when_words (when_at ar s d at) expr_words (read_expr ar s 16 at) block_words (λ m. body_at ar s d m) []
unfolding read_when
when_parts ar s d at g =
    let v = pair_value (read_expr ar s expr_levels at) (λ e. read_body ar s (λ m. read_stmt ar s d m)) g in
    parts_of when_words expr_words block_words (λ m. body_at ar s d m) v.6 v.4 v.5 (if_words v.0 v.2 ∙ rw append-nil)

module _ (r : Result Stmts) (g : Good r) where
  -- the words of a block
  block_code : code_of block_words r ≡ coded if_kind 0 (length (code_of body_words r)) ∷ code_of body_words r
  unfolding code_of block_words
  block_code = let v = value r g in rw v.2

  -- the body of an if stands one place on
  pub block_ready : {out : List ℕ} {k : ℕ} → Ready block_words r out k → (k < length out) × (Ready body_words r out (k + 1))
  block_ready w =
      let e = rw block_code at w.room in
      let f = rw block_code at w.few in
      (omega arith, record { good = g; room = omega arith; few = omega arith })

  -- and `if n` before it
  pub block_wrote : {out : List ℕ} {k : ℕ} {p : Put} {out1 out2 : List ℕ} {v : ℕ} → Wrote body_words r out (k + 1) p out1
      → v ≡ coded if_kind 0 (p.at - k - 1) → out2 ≡ set out1 k v → Wrote block_words r out k p out2
  block_wrote {out} {k} {p} {out2 = out2} {v = v} w e h =
      let n : p.at - k - 1 ≡ length (code_of body_words r) = omega (arith, w.at) in
      let e' : v ≡ coded if_kind 0 (length (code_of body_words r)) = e ∙ rw n in
      let l : out2 ≡ sets (set out k v) (k + 1) (code_of body_words r) =
      h ∙ rw w.list (set_sets out k (k + 1) v (code_of body_words r) (omega arith)) in
      placed_as {ws = v ∷ code_of body_words r} (record { next = w.next; at = omega (arith, w.at); list = rw (add-one k) at l })
      (block_code ∙ rw e') refl

-- what the code has of a body: a count and statements
pub record BodyFacts (ar s : List ℕ) (d at : ℕ) : Type 0 where
  pub inside : at < length s
  pub part : Part body_words (body_at ar s d at) body_words (stmts_at ar s d (get_or s at 0) (at + 1)) []

-- a body that was read has them
pub body_facts : (ar s : List ℕ) (d at : ℕ) → Good (body_at ar s d at) → BodyFacts ar s d at
unfolding read_body
body_facts ar s d at g =
    let v = counted_value s 0 max_statements (λ n m. stmts_at ar s d n m) at g in
    record { inside = v.0; part = same_part body_words v.1 g }

-- of statements n are left: the next may be written, and then the others are left; or all are written
module _ (ar s : List ℕ) (d n : ℕ) {R : Result Stmts} {out : List ℕ} {k : ℕ} {p : Put} {out1 : List ℕ}
    (x : Rest body_words R out k (stmts_at ar s d n p.next) p out1) where
  pub stmts_ready : (n ≡ 0 → ⊥) → Ready stmt_words (read_stmt ar s d p.next) out1 p.at
  stmts_ready = rest_ready body_words stmt_words end next (λ m. read_stmt ar s d m) n x more_stmts

  pub stmts_next : (n ≡ 0 → ⊥) → {q : Put} {out2 : List ℕ} → Wrote stmt_words (read_stmt ar s d p.next) out1 p.at q out2
      → Rest body_words R out k (stmts_at ar s d (n - 1) q.next) q out2
  stmts_next i w = rest_next body_words stmt_words end next (λ m. read_stmt ar s d m) n x more_stmts i w

  pub stmts_none : n ≡ 0 → Wrote body_words R out k p out1
  stmts_none = rest_none body_words stmt_words end next (λ m. read_stmt ar s d m) n x no_stmts

module _ (ar s : List ℕ) where
  -- what reads behind the byte of an if
  unfoldable inner : ℕ → ℕ → ℕ → Result (Expr × Stmts)
  inner zero at k = bad at wrong_byte
  inner (suc d) at k = when_at ar s d k

  -- a statement has a byte, whose kind says what is read
  stmt_step : (d at : ℕ) → Good (read_stmt ar s d at)
      → (at < length s) × (read_stmt ar s d at ≡ rule_stmt ar s (inner d) at (at + 1) (kind (get_or s at 0)))
  unfolding read_stmt inner
  stmt_step zero at g = opened_value s kind (rule_stmt ar s λ at k. bad at wrong_byte) at g
  stmt_step (suc d) at g = opened_value s kind (rule_stmt ar s λ at k. when_at ar s d k) at g

  -- no level, no if; a level less in an if
  shut : (h : Expr × Stmts → Stmt) (at k : ℕ) {r : Result Stmt} → r ≡ made h (inner 0 at k) → Good r → ⊥
  unfolding inner made then
  shut h at k p g = rw p at g

  level : (h : Expr × Stmts → Stmt) (d at k : ℕ) {r : Result Stmt} → r ≡ made h (inner (suc d) at k) → r ≡ made h (when_at ar s d k)
  unfolding inner
  level h d at k p = p

module _ (ar s : List ℕ) (d at : ℕ) (g : Good (read_stmt ar s d at)) where
  -- a statement stands in the stream
  pub stmt_in : at < length s
  stmt_in = (stmt_step ar s d at g).0

  -- an if, which has a level
  pub when_part : get_or s at 0 ≡ 1 → (0 < d) × (Part stmt_words (read_stmt ar s d at) when_words (when_at ar s (d - 1) (at + 1)) [])
  unfolding rule_stmt kind lookup
  when_part e = go d ((stmt_step ar s d at g).1 ∙ rw e refl) g
    where
      go : (d : ℕ) → read_stmt ar s d at ≡ made (λ p. when p.0 p.1) (inner ar s d at (at + 1)) → Good (read_stmt ar s d at)
          → (0 < d) × (Part stmt_words (read_stmt ar s d at) when_words (when_at ar s (d - 1) (at + 1)) [])
      go zero p g = absurd (shut ar s (λ p. when p.0 p.1) at (at + 1) p g)
      go (suc d) p g = (
        omega arith,
        rw sub-one
            (made_part stmt_words when_words (λ p. when p.0 p.1) (when_at ar s d (at + 1)) (level ar s (λ p. when p.0 p.1) d at (at + 1) p) g
            (λ p. when_is p ∙ sym (append-nil _))),
      )

  -- a declaration
  pub declare_part : get_or s at 0 ≡ 2 → Part stmt_words (read_stmt ar s d at) declare_words (read_declare ar s (at + 1)) []
  unfolding rule_stmt kind lookup
  declare_part e =
      made_part stmt_words declare_words (λ p. declare p.0 p.1.0 p.1.1) (read_declare ar s (at + 1))
      ((stmt_step ar s d at g).1 ∙ rw e refl) g (λ p. declare_is p ∙ sym (append-nil _))

  -- an update
  pub updated_part : get_or s at 0 ≡ 3 → Part stmt_words (read_stmt ar s d at) update_words (read_update ar s (at + 1)) []
  unfolding rule_stmt kind lookup
  updated_part e =
      made_part stmt_words update_words (λ p. update p.0.0 p.0.1 p.1) (read_update ar s (at + 1))
      ((stmt_step ar s d at g).1 ∙ rw e refl) g (λ p. update_is p ∙ sym (append-nil _))

  -- a construct, where it is nothing else
  pub create_part : (get_or s at 0 ≡ 1 → ⊥) → (get_or s at 0 ≡ 2 → ⊥) → (get_or s at 0 ≡ 3 → ⊥)
      → Part stmt_words (read_stmt ar s d at) make_words (make_at ar s 16 (at + 1)) []
  unfolding rule_stmt
  create_part n1 n2 n3 = go (kind (get_or s at 0)) refl (opens_stmt (get_or s at 0))
    where
      go : (f : Kind) → kind (get_or s at 0) ≡ f → OpensStmt (get_or s at 0) f → Part stmt_words (read_stmt ar s d at) make_words (make_at ar s 16 (at + 1)) []
      go kind_when e o = absurd (n1 o)
      go kind_declare e o = absurd (n2 o)
      go kind_update e o = absurd (n3 o)
      go kind_create e o =
          made_part stmt_words make_words (λ p. create p.0 p.1) (make_at ar s 16 (at + 1))
          ((stmt_step ar s d at g).1 ∙ rw e refl) g (λ p. create_is p ∙ sym (append-nil _))
      go kind_none e o =
          let p : read_stmt ar s d at ≡ bad at wrong_byte = (stmt_step ar s d at g).1 ∙ rw e refl in
          absurd (rw p at g)

-- push this and a wr behind the expression of a declaration
pub declare_wrote : {A B : Type 0} {F : A → List ℕ} {R : Result A} {f : B → List ℕ} {r : Result B} {x y : ℕ} → Part F R f r (x ∷ y ∷ [])
    → {out out1 out2 out3 : List ℕ} {k v w : ℕ} {p q t : Put} → Wrote f r out k p out1 → v ≡ x
    → (q.next ≡ p.next) × (q.at ≡ p.at + 1) × (out2 ≡ set out1 p.at v) → w ≡ y
    → (t.next ≡ q.next) × (t.at ≡ q.at + 1) × (out3 ≡ set out2 q.at w) → Wrote F R out k t out3
declare_wrote h g e a f b =
    part_wrote h g
    (placed_first (a.2 ∙ rw e) (placed_one (b.0 ∙ a.0) (b.1 ∙ rw a.1) (b.2 ∙ rw (f, a.1))))

-- the path behind the expression of an update
pub update_wrote : (ar s : List ℕ) (at : ℕ)
    → Part update_words (read_update ar s at) expr_words (read_expr ar s 16 (at + 1 + get_or s at 0)) (code_of target_words (read_path s at))
    → {out out1 out2 : List ℕ} {k : ℕ} {p q : Put} → Wrote expr_words (read_expr ar s 16 (at + 1 + get_or s at 0)) out k p out1
    → Wrote target_words (read_path s at) out1 p.at q out2
    → Wrote update_words (read_update ar s at) out k (record { next = p.next; at = q.at }) out2
update_wrote ar s at h g w = part_wrote h g (record { next = refl; at = w.at; list = w.list })
