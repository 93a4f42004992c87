-- `text::command` meets its contract, kind by kind.
use Rattle.std.proofs.Common.{ℕ, ◌%◌, ◌/◌, ◌≡◌, ◌≢◌, [], ◌∷◌, arith, ◌∙◌, sym}
use Rattle.types.specs.Limits.{nat_end}
use Rattle.commands.specs.declared.kind.Kind.TheVariants.{Push, This, Rd, Wr, Cons, If, Not}
use Rattle.text.specs.Listing.{keyed, text}
use Rattle.text.specs.ListingLaws.{placed_as}
use Rattle.text.specs.TextLaws.{text_push, text_this, text_not, text_other, other_rd, other_wr, other_cons, other_if, other_op}
use Rattle.text.proofs.command.Goals as goal

module _ (w : ℕ) where
  rd : w % 256 ≡ 3 → text w ≡ keyed (114 ∷ 100 ∷ 32 ∷ []) (w / nat_end)
  rd e = text_other w (omega arith) (omega arith) (omega arith) ∙ other_rd (w % 256) (w / nat_end) e

  wr : w % 256 ≡ 4 → text w ≡ keyed (119 ∷ 114 ∷ 32 ∷ []) (w / nat_end)
  wr e = text_other w (omega arith) (omega arith) (omega arith) ∙ other_wr (w % 256) (w / nat_end) (omega arith) e

  cons : w % 256 ≡ 5 → text w ≡ keyed (99 ∷ 111 ∷ 110 ∷ 115 ∷ 32 ∷ []) (w / nat_end)
  cons e = text_other w (omega arith) (omega arith) (omega arith) ∙ other_cons (w % 256) (w / nat_end) (omega arith) (omega arith) e

  if_n : w % 256 ≡ 6 → text w ≡ keyed (105 ∷ 102 ∷ 32 ∷ []) (w / nat_end)
  if_n e = text_other w (omega arith) (omega arith) (omega arith) ∙ other_if (w % 256) (w / nat_end) (omega arith) (omega arith) (omega arith) e

  op : w % 256 ≢ 1 → w % 256 ≢ 2 → w % 256 ≢ 7 → w % 256 ≢ 3 → w % 256 ≢ 4 → w % 256 ≢ 5 → w % 256 ≢ 6
      → text w ≡ keyed (111 ∷ 112 ∷ 32 ∷ []) (w / nat_end)
  op n1 n2 n7 n3 n4 n5 n6 = text_other w n1 n2 n7 ∙ other_op (w % 256) (w / nat_end) n3 n4 n5 n6

pub returns-in-Push-clause-placed : goal.returns-in-Push-clause-placed
returns-in-Push-clause-placed c = placed_as (text_push _ (sym (rw c.in-Push.is at c.in-Ok.ensures))) c.push.ensures.placed

pub returns-in-This-clause-placed : goal.returns-in-This-clause-placed
returns-in-This-clause-placed c =
    let e : c.args.w % 256 ≡ 2 = sym (rw c.in-This.is at c.in-Ok.ensures) in placed_as (text_this _ (omega arith) e) c.put.ensures

pub returns-in-Rd-clause-placed : goal.returns-in-Rd-clause-placed
returns-in-Rd-clause-placed c = placed_as (rd c.args.w (sym (rw c.in-Rd.is at c.in-Ok.ensures))) c.keyed-in-Rd.ensures.placed

pub returns-in-Wr-clause-placed : goal.returns-in-Wr-clause-placed
returns-in-Wr-clause-placed c = placed_as (wr c.args.w (sym (rw c.in-Wr.is at c.in-Ok.ensures))) c.keyed-in-Wr.ensures.placed

pub returns-in-Cons-clause-placed : goal.returns-in-Cons-clause-placed
returns-in-Cons-clause-placed c = placed_as (cons c.args.w (sym (rw c.in-Cons.is at c.in-Ok.ensures))) c.keyed-in-Cons.ensures.placed

pub returns-in-If-clause-placed : goal.returns-in-If-clause-placed
returns-in-If-clause-placed c = placed_as (if_n c.args.w (sym (rw c.in-If.is at c.in-Ok.ensures))) c.keyed-in-If.ensures.placed

pub returns-in-Not-clause-placed : goal.returns-in-Not-clause-placed
returns-in-Not-clause-placed c =
    let e : c.args.w % 256 ≡ 7 = sym (rw c.in-Not.is at c.in-Ok.ensures) in placed_as (text_not _ (omega arith) (omega arith) e) c.put-in-Not.ensures

pub returns-in-Op-clause-placed : goal.returns-in-Op-clause-placed
returns-in-Op-clause-placed c =
    let e : c.args.w % 256 ≡ 8 = sym (rw c.in-Op.is at c.in-Ok.ensures) in
    placed_as (op c.args.w (omega arith) (omega arith) (omega arith) (omega arith) (omega arith) (omega arith) (omega arith))
    c.keyed-in-Op.ensures.placed

-- a number that names no kind
pub returns-in_default-clause-placed : goal.returns-in_default-clause-placed
returns-in_default-clause-placed c =
    let none = c.in_default.ensures in
    placed_as (op c.args.w (λ e. none Push (sym e)) (λ e. none This (sym e)) (λ e. none Not (sym e)) (λ e. none Rd (sym e))
    (λ e. none Wr (sym e)) (λ e. none Cons (sym e)) (λ e. none If (sym e))) c.keyed.ensures.placed
