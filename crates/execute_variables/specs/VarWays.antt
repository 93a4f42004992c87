-- Each way through the commands on variables, over plain values (01, 'Table and turns').
use Rattle.std.specs.Prelude.{ℕ, ◌+◌, ◌-◌, ◌<◌, ◌≤◌, ◌≡◌, refl, true, List, [], length, get_or, set, Ok}
use Rattle.std.proofs.Math.Numerals.{add-one}
use Rattle.std.proofs.Common.{ap, ◌∙◌}
use borrow.Author.Tests.{lt-ltb, le-ltb}
use Rattle.layout.specs.Layout.{head, struct_of, variable, operand, going}
use Rattle.memory.specs.Act.{do_rd, do_wr, written, written_to}
use Rattle.memory.proofs.Laws.EntriesLaws.{times_one}
use Rattle.execute_stack.specs.declared.Actor.{Actor}
use Rattle.execute_stack.specs.declared.Effect.{Effect}
use Rattle.execute_stack.specs.declared.Effect.TheVariants.{Kept, Wrote}
use Rattle.execute_stack.specs.Answers.{seen, Acting, topmost, second, on, answering, Does}
use Rattle.execute_stack.specs.StackWays.{as_seen, Puts, put_way}
use Rattle.execute_variables.specs.Change.{change}

-- the instance that the label on top names, and how many parameters it has
abbrev target : List ℕ → Actor → ℕ
target c a = operand (topmost c a)

abbrev own : List ℕ → List ℕ → List ℕ → Actor → ℕ
own counts h c a = get_or counts (get_or h (head (target c a) struct_of) 0) 0

-- its struct, by the label and the number as they were read
pub struct_read : (h c : List ℕ) (a : Actor) {r k : ℕ} → r ≡ target c a → k ≡ get_or h (head r struct_of) 0 → k ≡ get_or h (head (target c a) struct_of) 0
struct_read h c a e f = f ∙ ap (λ (r : ℕ). get_or h (head r struct_of) 0) e

-- what every write leaves of the actor's numbers
abbrev Gone : List ℕ → Actor → List ℕ → Type 0
Gone h a h' = h' ≡ going h a.label (a.height - 2) (a.next + 1)

-- and of the cells, where it writes one
abbrev Stored : List ℕ → Actor → ℕ → List ℕ → Type 0
Stored c a x c' = c' ≡ set c (variable (target c a) x) (second c a)

-- The actor as memory has it ---------------------------------------------------------

module _ (counts h c : List ℕ) (l x : ℕ) {h' : List ℕ} where
  null_seen : Gone h (seen h l) h' → x < own counts h c (seen h l) → target c (seen h l) < length counts → Does (λ z. do_wr counts l z x) (Ok Kept) h c h' c
  unfolding do_wr written_to answering
  null_seen p u b z = rw (
    do_wr,
    written_to,
    lt-ltb x (own counts h c (seen h l)) u,
    lt-ltb (target c (seen h l)) (length counts) b,
    p,
    add-one (seen h l).next,
  )

  module _ {c' : List ℕ} where
    local_seen : Stored c (seen h l) x c' → Gone h (seen h l) h' → own counts h c (seen h l) ≤ x → Does (λ z. do_wr counts l z x) (Ok (Wrote true)) h c h' c'
    unfolding do_wr written_to answering
    local_seen e p u z = times_one (on z h' c') ∙ rw (do_wr, written_to, le-ltb x (own counts h c (seen h l)) u, p, e, add-one (seen h l).next)

    param_seen : {r : Effect} → Stored c (seen h l) x c' → r ≡ change (get_or c (variable (target c (seen h l)) x) 0) (second c (seen h l)) → Gone h (seen h l) h'
        → x < own counts h c (seen h l) → length counts ≤ target c (seen h l)
        → Does (λ z. do_wr counts l z x) (Ok r) h c h' c'
    unfolding do_wr written_to written change answering
    param_seen e q p u b z =
        rw (do_wr, written_to, lt-ltb x (own counts h c (seen h l)) u, le-ltb (target c (seen h l)) (length counts) b, p, e, q, add-one (seen h l).next)

-- The actor that was handed in -------------------------------------------------------

pub read_way : {h c : List ℕ} {a : Actor} → Acting h c a → {h' c' : List ℕ} (x : ℕ)
    → Puts h c a h' c' (a.height - 1) (get_or c (variable (target c a) x) 0)
    → Does (λ z. do_rd [] a.label z x) (Ok Kept) h c h' c'
unfolding do_rd
read_way {a = a} g x p z = rw (← g.height) (put_way g (a.height - 1) refl p z)

module _ (counts : List ℕ) {h c : List ℕ} {a : Actor} (g : Acting h c a) (x : ℕ) {h' : List ℕ} where
  pub null_way : Gone h a h' → x < own counts h c a → target c a < length counts → Does (λ z. do_wr counts a.label z x) (Ok Kept) h c h' c
  null_way =
      as_seen g (λ b. Gone h b h' → x < own counts h c b → target c b < length counts → Does (λ z. do_wr counts b.label z x) (Ok Kept) h c h' c)
      (null_seen counts h c a.label x)

  module _ {c' : List ℕ} where
    pub local_way : Stored c a x c' → Gone h a h' → own counts h c a ≤ x → Does (λ z. do_wr counts a.label z x) (Ok (Wrote true)) h c h' c'
    local_way =
        as_seen g (λ b. Stored c b x c' → Gone h b h' → own counts h c b ≤ x → Does (λ z. do_wr counts b.label z x) (Ok (Wrote true)) h c h' c')
        (local_seen counts h c a.label x)

    pub param_way : {r : Effect} → Stored c a x c' → r ≡ change (get_or c (variable (target c a) x) 0) (second c a) → Gone h a h'
        → x < own counts h c a → length counts ≤ target c a
        → Does (λ z. do_wr counts a.label z x) (Ok r) h c h' c'
    param_way {r} =
        as_seen g
        (λ b. Stored c b x c' → r ≡ change (get_or c (variable (target c b) x) 0) (second c b) → Gone h b h'
        → x < own counts h c b → length counts ≤ target c b → Does (λ z. do_wr counts b.label z x) (Ok r) h c h' c')
        (param_seen counts h c a.label x)
