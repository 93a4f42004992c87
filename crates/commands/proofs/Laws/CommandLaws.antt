-- Laws of nested and of flat commands (000, definitions 1 and 2; 01, 'Names, types, commands').
use Rattle.std.specs.Prelude.{ℕ, ◌≡◌, refl, List, [], ◌∷◌, ◌++◌, length, drop}
use Rattle.std.proofs.Common.{ap, sym, ◌∙◌, append_assoc}
use Rattle.std.proofs.Math.Seq.{take-append_seam, drop-append_seam}
use Rattle.program.specs.Tree.{Var, Expr, Stmt.when, Stmts}
use Rattle.program.specs.Encoding.{var_code}
use Rattle.commands.specs.Commands.{Com.push_this, Com.wr, Coms, Coms.nil, Coms.act, Coms.if_then, then, reads, front, last, expr_coms}
use Rattle.commands.specs.Commands.{update_coms, stmt_coms, body_coms, Flat, Flat.plain, Flat.if_n, flatten}

-- one list behind another is flat as the two flat lists in a row
pub flatten_then : (c d : Coms) → flatten (then c d) ≡ flatten c ++ flatten d
unfolding then flatten
flatten_then nil d = refl
flatten_then (act m c) d = ap (λ l. plain m ∷ l) (flatten_then c d)
flatten_then (if_then b c) d = rw (flatten_then c d, append_assoc)

-- before further commands
pub flatten_app : (c d : Coms) (f : List Flat) → flatten (then c d) ++ f ≡ flatten c ++ (flatten d ++ f)
flatten_app c d f = rw (flatten_then, append_assoc)

-- rd of all but the last of x, xs and wr of the last, before further commands
abbrev pub stored : ℕ → List ℕ → List Flat → List Flat
stored x xs f = flatten (reads (front x xs)) ++ plain (wr (last x xs)) ∷ f

-- an update: the expression, push this, rd of all but the last variable, wr of the last
pub update_flat : (v : Var) (vs : List ℕ) (e : Expr) (f : List Flat)
    → flatten (update_coms v vs e) ++ f ≡ flatten (expr_coms e) ++ plain push_this ∷ stored (var_code v) vs f
unfolding update_coms flatten
update_flat v vs e f = rw (flatten_app, flatten_app)

-- an if: the condition, then `if n` before its n body commands
pub when_flat : (e : Expr) (b : Stmts) (f : List Flat)
    → flatten (stmt_coms (when e b)) ++ f ≡ flatten (expr_coms e) ++ if_n (length (flatten (body_coms b))) ∷ (flatten (body_coms b) ++ f)
unfolding stmt_coms flatten
when_flat e b f = rw (flatten_app, append_assoc (flatten (body_coms b)) [] f)

-- two lists in a row, of which the first are equally long, are equal by parts
parts : {a b c d : List Flat} → length a ≡ length b → a ++ c ≡ b ++ d → (a ≡ b) × (c ≡ d)
parts {a} {b} {c} {d} n e = (
  sym (take-append_seam a c) ∙ rw (n, e) (take-append_seam b d),
  sym (drop-append_seam a c) ∙ rw (n, e) (drop-append_seam b d),
)

-- the flat list determines the nested one
pub flatten_injective : (c d : Coms) → flatten c ≡ flatten d → c ≡ d
unfolding flatten
flatten_injective nil nil e = refl
flatten_injective nil (act m d) e = cc
flatten_injective nil (if_then b d) e = cc
flatten_injective (act m c) nil e = cc
flatten_injective (act m c) (act m' d) e = let h = flatten_injective c d cc in cc
flatten_injective (act m c) (if_then b d) e = cc
flatten_injective (if_then b c) nil e = cc
flatten_injective (if_then b c) (act m d) e = cc
flatten_injective (if_then b c) (if_then b' d) e =
    let p = parts {a = flatten b} {b = flatten b'} {c = flatten c} {d = flatten d} (cc) (cc) in
    let h = flatten_injective b b' p.0 in
    let k = flatten_injective c d p.1 in
    cc

-- the true way (ComIfT): behind the `if n` stand the body and then the rest
pub if_true : (b c : Coms) → flatten (if_then b c) ≡ if_n (length (flatten b)) ∷ flatten (then b c)
unfolding flatten
if_true b c = rw flatten_then

-- the false way (ComIfF): without the n commands behind the `if n` it is the rest
pub if_false : (b c : Coms) → drop (length (flatten b)) (flatten (then b c)) ≡ flatten c
if_false b c = rw flatten_then (drop-append_seam (flatten b) (flatten c))
