-- The stream of an accepted program is short (01, 'Program stream', and the limits of 6), and so kept in little room.
use Rattle.std.specs.Prelude.{ℕ, ◌+◌, ◌*◌, ◌≤◌, ◌≡◌, refl, List, [], ◌∷◌, ◌++◌, length}
use Rattle.std.proofs.Common.{arith, ap, ◌∙◌, length-append}
use Rattle.types.specs.Limits.{max_params, max_steps}
use Rattle.types.specs.Types.{Ty, code}
use Rattle.blocks.specs.Images.{stream}
use Rattle.program.specs.Tree.{Expr, Expr.inv, Expr.make, Expr.path, Expr.int_lit, Expr.nat_lit, Expr.bool_lit, Expr.null, Expr.self, Expr.op, Exprs}
use Rattle.program.specs.Tree.{Exprs.none, Exprs.more, Stmt, Stmt.when, Stmt.declare, Stmt.update, Stmt.create, Stmts, Stmts.end, Stmts.next, Item, Item.call}
use Rattle.program.specs.Tree.{Item.call_in, Item.fix, Items, Items.stop, Items.item, Step, Program, size, items}
use Rattle.program.specs.Encoding.{enc_list, flat, enc_path, enc_expr, enc_exprs, enc_stmt, enc_stmts, enc_item, enc_items, enc_step, enc_program}
use Rattle.program.specs.Counts.{All, Few, Counts}
use Rattle.program.proofs.Laws.ProgramLaws.{program_law}
use Rattle.commands.specs.Sizes.{expr_size, args_size, stmt_size, body_size}
use Rattle.commands.proofs.Laws.SizeLaws.{program_size_is}
use Rattle.commands.specs.Bounds.{total, item_count, items_count, Within}
use Rattle.commands.proofs.Laws.NumbersLaws.{number_accepts}
use Rattle.load.specs.declared.Loaded.{Loaded}
use Rattle.load.specs.LoadLaws.{LoadedAs, accepted_source}
use Rattle.table.proofs.Laws.SizeLaws.{word_length}
use Rattle.seating.specs.Seated.{most_bytes}

-- at most five bytes for a command
mutual
  unfolding enc_expr enc_path expr_size

  expr_bytes : (e : Expr) → length (enc_expr e) ≤ 5 * expr_size e
  expr_bytes (inv e) = omega (arith, expr_bytes e)
  expr_bytes (make k es) = omega (arith, args_bytes es)
  expr_bytes (path v vs) = omega arith
  expr_bytes (int_lit w) = omega (arith, word_length 4 w)
  expr_bytes (nat_lit w) = omega (arith, word_length 4 w)
  expr_bytes (bool_lit w) = omega arith
  expr_bytes (null t) = omega arith
  expr_bytes self = omega arith
  expr_bytes (op o a b) = omega (arith, length-append (enc_expr a) (enc_expr b), expr_bytes a, expr_bytes b)

  args_bytes : (es : Exprs) → length (enc_exprs es) ≤ 5 * args_size es
  args_bytes none = omega arith
  args_bytes (more e es) = omega (arith, length-append (enc_expr e) (enc_exprs es), expr_bytes e, args_bytes es)

mutual
  unfolding enc_stmt enc_path stmt_size

  stmt_bytes : (s : Stmt) → length (enc_stmt s) ≤ 5 * stmt_size s
  stmt_bytes (when e b) = omega (arith, length-append (enc_expr e) (size b ∷ enc_stmts b), expr_bytes e, body_bytes b)
  stmt_bytes (declare t x e) = omega (arith, expr_bytes e)
  stmt_bytes (update v vs e) = omega (arith, length-append (enc_path v vs) (enc_expr e), expr_bytes e)
  stmt_bytes (create k es) = omega (arith, args_bytes es)

  body_bytes : (b : Stmts) → length (enc_stmts b) ≤ 5 * body_size b
  body_bytes end = omega arith
  body_bytes (next s b) = omega (arith, length-append (enc_stmt s) (enc_stmts b), stmt_bytes s, body_bytes b)

-- and two for a step, one for a struct
abbrev weight : Step → ℕ
weight t = body_size t.body

steps_bytes : (l : List Step) → length (flat enc_step l) ≤ 2 * length l + 5 * total weight l
unfolding flat total enc_step
steps_bytes [] = omega arith
steps_bytes (t ∷ l) = omega (arith, length-append (enc_step t) (flat enc_step l), body_bytes t.body, steps_bytes l)

structs_bytes : (C : Step → Type 0) (ls : List (List Step)) → All (Few 0 max_steps C) ls
    → length (flat (enc_list enc_step) ls) ≤ 17 * length ls + 5 * total (total weight) ls
unfolding flat total
structs_bytes C [] h = omega arith
structs_bytes C (l ∷ ls) h =
    omega (arith, length-append (enc_list enc_step l) (flat (enc_list enc_step) ls), steps_bytes l, h.0.1, structs_bytes C ls h.1)

-- a byte for each parameter, and one for a struct
abbrev type_byte : Ty → List ℕ
type_byte t = code t ∷ []

types_bytes : (ps : List Ty) → length (flat type_byte ps) ≡ length ps
unfolding flat
types_bytes [] = refl
types_bytes (t ∷ ps) = omega (arith, types_bytes ps)

params_bytes : (C : Ty → Type 0) (pss : List (List Ty)) → All (Few 0 max_params C) pss → length (flat (enc_list type_byte) pss) ≤ 9 * length pss
unfolding flat
params_bytes C [] h = omega arith
params_bytes C (ps ∷ pss) h =
    omega (arith, length-append (enc_list type_byte ps) (flat (enc_list type_byte) pss), types_bytes ps, h.0.1, params_bytes C pss h.1)

-- three for an item of the schedule
mutual
  unfolding enc_item item_count

  item_bytes : (i : Item) → length (enc_item i) ≤ 3 * item_count i
  item_bytes (call n) = omega arith
  item_bytes (call_in k n) = omega arith
  item_bytes (fix is) = omega (arith, items_bytes is)

  items_bytes : (is : Items) → length (enc_items is) ≤ 3 * items_count is
  items_bytes stop = omega arith
  items_bytes (item i is) = omega (arith, length-append (enc_item i) (enc_items is), item_bytes i, items_bytes is)

program_bytes : (p : Program)
    → length (enc_program p) ≡ length (enc_list (enc_list type_byte) p.params) + length (flat (enc_list enc_step) p.steps)
    + length (items p.schedule ∷ enc_items p.schedule)
unfolding enc_program
program_bytes p =
    let front = enc_list (enc_list type_byte) p.params in let steps = flat (enc_list enc_step) p.steps in
    let rest = items p.schedule ∷ enc_items p.schedule in
    length-append (front ++ steps) rest ∙ ap (λ (n : ℕ). n + length rest) (length-append front steps)

stream_short : (p : Program) → Counts p → Within p → length (enc_program p) ≤ most_bytes
unfolding Counts Within
stream_short p c w =
    omega (
      arith,
      program_bytes p,
      params_bytes _ p.params c.0.2,
      structs_bytes _ p.steps c.2,
      items_bytes p.schedule,
      program_size_is p,
      w.1,
      w.3,
      c.0.1,
      c.1,
    )

-- a program that is loaded has such a stream
pub loaded_short : (x : List ℕ) (z : Loaded) → LoadedAs x z → z.length ≤ most_bytes
loaded_short x z l =
    let s = accepted_source x l.program l.accepts in
    let c = (program_law (stream x) l.program s.end).0 s.reads in
    let n : length (stream x) ≡ length (enc_program l.program) = ap length c.1 in
    omega (
      arith,
      n,
      ap (λ (y : Loaded). y.length) l.is,
      stream_short l.program c.0 ((number_accepts l.program c.0).0 s.numbered).1,
    )
