-- The schedule of an accepted program may be laid flat in 129 places, and then place 0 stands for it (01, 'Table and turns').
use Rattle.std.specs.Prelude.{ℕ, suc, ◌+◌, ◌*◌, ◌<◌, ◌≤◌, ◌≡◌, refl, List, ◌++◌, length, get_or, drop}
use native.Mathlib.Omega.{arith}
use Rattle.std.proofs.Common.{ap, ◌∙◌, length-drop}
use Rattle.std.proofs.lemmas.List.{length-map, take-append-le, drop-append-le}
use Rattle.std.proofs.Math.ListN.{get_or-append}
use Rattle.std.proofs.lemmas.List.Edits.{sets, sets-eq}
use Rattle.types.specs.Limits.{max_structs, schedule_items, fix_levels}
use Rattle.types.specs.Types.{Ty}
use Rattle.program.specs.Tree.{Item, Item.call, Item.call_in, Item.fix, Items, Items.stop, Items.item, Step, Program}
use Rattle.program.specs.Counts.{CountsItem, CountsItems, CountsSchedule, Counts}
use Rattle.program.specs.Reader.{Result, Result.ok, Result.bad, then, pair, made, read_items, read_item, read_program, read}
use Rattle.program.proofs.Laws.PartLaws.{told_is}
use Rattle.program.proofs.Laws.ItemLaws.{schedule_exact}
use Rattle.program.proofs.Laws.ProgramLaws.{program_law}
use Rattle.commands.specs.Bounds.{arities, Within}
use Rattle.emit.specs.declared.Put.{Put}
use Rattle.emit.specs.Written.{code_of, Ready, Wrote}
use Rattle.emit.specs.Laws.ProgramLaws.{whole_program}
use Rattle.emit.specs.Written.{structs_at}
use Rattle.machine.specs.Published.{Sched, of_items}
use Rattle.memory.specs.Plan.{laid, laid_out, Ranged, Body, At, At.at_end, At.at_start, At.at_fix, At.at_round}
use Rattle.memory.proofs.Laws.PlanLaws.{at_within, laid_whole, schedule_ranged}
use Rattle.compile.specs.Codes.{schedule_codes, any_structs, schedule_at}
use Rattle.compile.specs.CodesLaws.{schedule_few}
use Rattle.compile.specs.Laid.{Behind, LaidProgram}

-- Places before others -----------------------------------------------------------

module _ (l more : List ℕ) where
  kept : (a : ℕ) {c : ℕ} → get_or l a 0 ≡ c → a < length l → get_or (l ++ more) a 0 ≡ c
  kept a e h = get_or-append l more 0 a h ∙ e

  body_more : {t : ℕ} {f : Sched} {j : ℕ} → Body l t f j → j ≤ length l → Body (l ++ more) t f j
  body_more {t} {f} b h =
      let n = length (laid f t) in
      let e = b.ends in
      let d : n ≤ length (drop t l) = rw length-drop (omega arith) in
      record {
        ranged = b.ranged;
        ends = e;
        stands = rw (drop-append-le t l more (omega arith), take-append-le n (drop t l) more d) b.stands;
      }

  -- a place stands for the same schedule where codes stand behind
  at_more : {a : ℕ} {s : Sched} → At l a s → At (l ++ more) a s
  at_more (at_end {a = a} e) = at_end (kept a e (at_within l (at_end e)))
  at_more (at_start {a = a} h e r) = let w = at_within l r in at_start h (kept a e (omega arith)) (at_more r)
  at_more (at_fix {a = a} {j = j} e b q r) =
      let w = at_within l r in
      let i = b.ends in
      at_fix (kept a e (omega arith)) (body_more b (omega arith)) (kept j q (omega arith)) (at_more r)
  at_more (at_round {j = j} b e r) = let w = at_within l r in at_round (body_more b (omega arith)) (kept j e (omega arith)) (at_more r)

-- a schedule in range whose codes stand from place 0 on stands at place 0
pub laid_front : (s : Sched) → Ranged s → (out : List ℕ) → length (laid_out s) ≤ length out → At (sets out 0 (laid_out s)) 0 s
laid_front s r out h =
    rw (sets-eq (laid_out s) out 0 (omega arith)) (at_more (laid_out s) (drop (0 + length (laid_out s)) out) (laid_whole s r))

-- Structs ------------------------------------------------------------------------

any_long : length any_structs ≡ max_structs
unfolding any_structs
any_long = refl

-- items within the counts of a program are within those of one with as many structs as there may be
module _ (ar : List ℕ) (few : length ar ≤ max_structs) where
  mutual
    unfolding CountsItem

    wider_item : (i : Item) → CountsItem ar i → CountsItem any_structs i
    wider_item (call n) c = c
    wider_item (call_in k n) c = let q = c.0 in let l = any_long in (omega arith, c.1)
    wider_item (fix is) c = (c.0, c.1, wider_items is c.2)

    wider_items : (is : Items) → CountsItems ar is → CountsItems any_structs is
    wider_items stop c = tt
    wider_items (item i is) c = (wider_item i c.0, wider_items is c.1)

  -- so the schedule is read alike
  wider_read : (s : List ℕ) (at : ℕ) (is : Items) (m : ℕ) → read_items ar s (read_item ar s fix_levels) at ≡ ok is m → schedule_at s at ≡ ok is m
  unfolding CountsSchedule
  wider_read s at is m e =
      let t = told_is ((schedule_exact ar).sound s at) e in
      let c = t.0 in
      (schedule_exact any_structs).complete s is at m (c.0, c.1, wider_items is c.2, c.3) t.1

-- Programs -----------------------------------------------------------------------

-- behind the steps of a program stands its schedule
program_schedule : (s : List ℕ) (p : Program) (m at : ℕ) → read_program s 0 ≡ ok p m → Behind s p at
    → read_items (arities p) s (read_item (arities p) s fix_levels) at ≡ ok p.schedule m
unfolding read_program made pair then
program_schedule s p m at e b =
    let k : structs_at (arities p) s (length p.params) b.first ≡ ok p.steps at = rw (length-map p.params length) at b.steps in
    go (read_items (arities p) s (read_item (arities p) s fix_levels) at) (rw (b.params, k) at e)
  where
    program_of : List (List Ty) × (List (List Step) × Items) → Program
    program_of p = record { params = p.0; steps = p.1.0; schedule = p.1.1 }

    go : (q : Result Items) → made program_of (made (λ b. (p.params, b)) (made (λ is. (p.steps, is)) q)) ≡ ok p m → q ≡ ok p.schedule m
    go (ok is n) h =
        let x : program_of (p.params, (p.steps, is)) ≡ p = cc in
        let y : n ≡ m = cc in
        rw y (ap (λ r. ok r.schedule m) x)
    go (bad i n) h = let z : ◌≡◌ {A = ℕ} 0 1 = cc in absurd (omega arith)

module _ (s : List ℕ) (p : Program) (m at : ℕ) (e : read s ≡ ok p m) (b : Behind s p at) where
  counts : Counts p
  counts = ((program_law s p m).0 e).0

  schedule_read : schedule_at s at ≡ ok p.schedule m
  unfolding Counts
  schedule_read =
      let c = counts.0.1 in
      wider_read (arities p) (rw (length-map p.params length) c) s at p.schedule m (program_schedule s p m at (whole_program s p m e) b)

  -- it may be laid flat
  pub schedule_ready : Within p → (out : List ℕ) → suc (2 * schedule_items) ≤ length out → Ready schedule_codes (schedule_at s at) out 0
  unfolding code_of Within
  schedule_ready w out l = let n = schedule_few p.schedule w.3 in rw schedule_read (record { good = tt; room = omega arith; few = omega arith })

-- and then stands there
pub schedule_laid : (s : List ℕ) (at : ℕ) (out out' : List ℕ) (r : Put) → Ready schedule_codes (schedule_at s at) out 0
    → Wrote schedule_codes (schedule_at s at) out 0 r out' → LaidProgram s at out out'
unfolding code_of schedule_codes
schedule_laid s at out out' r h w p m e b =
    let q = schedule_read s p m at e b in
    let i = rw q at w.list in
    let l = rw q at h.room in
    record { codes = i; start = rw i (laid_front (of_items p.schedule) (schedule_ranged p (counts s p m at e b)) out (omega arith)) }
