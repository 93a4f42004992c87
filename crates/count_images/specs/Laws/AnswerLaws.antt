-- What each refusal of a count answers, and what a count answers after all of them (02 §14).
use Rattle.std.specs.Prelude.{ℕ, ◌<◌, ◌≤◌, Bool, not, List, length, ltb}
use Rattle.std.proofs.Common.{arith, subst, ◌∙◌}
use Rattle.std.proofs.Math.Path.{◌≡◌, refl, sym, ap}
use Rattle.std.proofs.Math.Bool.{true, false}
use Rattle.std.proofs.Math.Option.{Option, none, some}
use borrow.Author.Tests.{lt-ltb, le-ltb}
use Rattle.types.specs.Limits.{max_commands, step_names}
use Rattle.types.specs.Numbers.{no_room, wrong_names, absent, wrong_types, many_commands}
use Rattle.types.specs.Types.{Ty, Ty.int, Ty.nat, Ty.bool, Ty.ref}
use Rattle.types.specs.Stages.{Stage.went, Stage.stopped, on, asked, given}
use Rattle.program.specs.Tree.{Program}
use Rattle.program.specs.Counts.{CountsItem, CountsItems, CountsSchedule, CountsTo, Counts}
use Rattle.commands.specs.Accepted.{Accepted}
use Rattle.commands.specs.Names.{Had}
use Rattle.commands.specs.Decide.NamesDecide.{stepped}
use Rattle.verdict.specs.Verdict.{listed}
use Rattle.table.specs.Table.{Record}
use Rattle.run.specs.Entry.{Begun, begun, not_begun, images, run_list_by}
use Rattle.orders.specs.StepAnswer.{alone}
use Rattle.orders.proofs.Laws.AloneLaws.{alone_accepted}
use Rattle.orders.proofs.Laws.StepAnswerLaws.{stepped_had}
use Rattle.counts.specs.Tally.{Kind, Kind.ends, Kind.stops, tally}
use Rattle.counts.specs.CountEntry.{most_counted, type_at, is_bool, started_commands, of_question, with_question, count_begins, counted, count_machine, count_by}
use Rattle.counts.specs.CountEntry.{count, count_list}
use Rattle.counting.specs.declared.count.Tally.{Tally}
use Rattle.counting.specs.Counting.{count_of}
use Rattle.count_images.specs.declared.Counts.{Counts as Answered}
use Rattle.count_images.specs.declared.Question.{Question}
use Rattle.count_images.specs.Answers.{answer, Answers}
use Rattle.count_images.specs.Laws.AskingLaws.{place_told}

-- a step that is there is named within the range
pub named_low : (p : Program) (n : ℕ) → Accepted p → Had n p.steps → n < step_names
unfolding Counts CountsTo CountsSchedule CountsItem CountsItems
named_low p n a had = (alone_accepted p n a had).0.3.2.0

pub high_not_stepped : (p : Program) (n : ℕ) → Accepted p → step_names ≤ n → stepped n p.steps ≡ false
high_not_stepped p n a h = go (stepped n p.steps) refl
  where
    go : (b : Bool) → stepped n p.steps ≡ b → b ≡ false
    go true e = let l = named_low p n a (stepped_had n p.steps e) in absurd (omega (arith, l, h))
    go false e = refl

bool_told : (o : Option Ty) → place_told o ≡ 0 → o ≡ some bool
unfolding place_told is_bool
bool_told none e = absurd (omega (arith, e))
bool_told (some int) e = absurd (omega (arith, e))
bool_told (some nat) e = absurd (omega (arith, e))
bool_told (some bool) e = refl
bool_told (some (ref k)) e = absurd (omega (arith, e))

module _ (p : Program) (rs : List Record) (n l v : ℕ) where
  abbrev question : Begun
  question = of_question n l v (p, rs)

  pub no_step : stepped n p.steps ≡ false → question ≡ stopped wrong_names
  unfolding of_question asked
  no_step e = rw (of_question, e)

  -- 21, 8 and 24 of what is there
  abbrev after : Option Ty → Begun
  after o =
      on (given o absent) λ t. asked (not (is_bool t)) wrong_types
      (asked (ltb most_counted (started_commands p rs n)) many_commands (went (p, rs)))

  module _ (s : stepped n p.steps ≡ true) where
    past_step : question ≡ after (type_at p rs l v)
    unfolding of_question asked
    past_step = rw (of_question, s)

    -- 21 or 8
    pub no_place : (k : ℕ) → place_told (type_at p rs l v) ≡ k → (k ≡ 0 → ⊥) → question ≡ stopped k
    unfolding place_told is_bool on given asked
    no_place k e f = past_step ∙ go (type_at p rs l v) e
      where
        go : (o : Option Ty) → place_told o ≡ k → after o ≡ stopped k
        go none e = ap stopped e
        go (some int) e = ap stopped e
        go (some nat) e = ap stopped e
        go (some bool) e = absurd (f (sym e))
        go (some (ref j)) e = ap stopped e

    module _ (e : place_told (type_at p rs l v) ≡ 0) where
      pub truth_typed : type_at p rs l v ≡ some bool
      truth_typed = bool_told (type_at p rs l v) e

      past_place : question ≡ asked (ltb most_counted (started_commands p rs n)) many_commands (went (p, rs))
      unfolding is_bool on given asked
      past_place = past_step ∙ ap after truth_typed

      pub many : most_counted < started_commands p rs n → question ≡ stopped many_commands
      unfolding asked
      many h = past_place ∙ rw (lt-ltb most_counted (started_commands p rs n) h)

      pub few : started_commands p rs n ≤ most_counted → question ≡ went (p, rs)
      unfolding asked
      few h = past_place ∙ rw (le-ltb most_counted (started_commands p rs n) h)

  -- it comes to a number that is not 0, or to the program and its table
  pub question_ways : (P : Begun → Type 0) → ((k : ℕ) → (k ≡ 0 → ⊥) → P (stopped k)) → P (went (p, rs)) → P question
  unfolding of_question is_bool on given asked
  question_ways P f w = go (stepped n p.steps) (type_at p rs l v) (ltb most_counted (started_commands p rs n))
    where
      go : (a : Bool) (o : Option Ty) (c : Bool)
          → P (asked (not a) wrong_names (on (given o absent) λ t. asked (not (is_bool t)) wrong_types (asked c many_commands (went (p, rs)))))
      go false o c = f wrong_names (λ e. omega (arith, e))
      go true none c = f absent (λ e. omega (arith, e))
      go true (some int) c = f wrong_types (λ e. omega (arith, e))
      go true (some nat) c = f wrong_types (λ e. omega (arith, e))
      go true (some bool) true = f many_commands (λ e. omega (arith, e))
      go true (some bool) false = w
      go true (some (ref k)) c = f wrong_types (λ e. omega (arith, e))

  -- a refusal is answered by its number
  pub question_refused : {k : ℕ} → question ≡ stopped k → {r : Answered} → r ≡ answer (counted k 0 0 0) → r ≡ answer (count_by n l v question)
  unfolding count_by
  question_refused e h = h ∙ sym (ap (λ b. answer (count_by n l v b)) e)

  -- and the counts by those of the machine
  pub question_counted : question ≡ went (p, rs) → (t : Tally) → ((κ : Kind) → count_of κ t ≡ tally (alone p n) l v κ (count_machine p rs n))
      → record { number = 0; truths = t.truths; falsehoods = t.falsehoods; stops = t.stops } ≡ answer (count_by n l v question)
  unfolding count_by
  question_counted e t f =
      same (f (ends true)) (f (ends false)) (f stops) ∙ sym (ap (λ b. answer (count_by n l v b)) e)
    where
      same : {a b c x y z : ℕ} → a ≡ x → b ≡ y → c ≡ z
          → ◌≡◌ {A = Answered} (record { number = 0; truths = a; falsehoods = b; stops = c }) (answer (counted 0 x y z))
      same p q r = rw (p, q, r)

-- The whole call ---------------------------------------------------------------------------------

module _ (q : Question) (list : List ℕ) where
  abbrev asks : Begun → Begun
  asks b = on b (with_question q.name q.label q.parameter list)

  refused_by : {b : Begun} {r : Answered} {k : ℕ} → asks b ≡ not_begun k → r ≡ answer (counted k 0 0 0) → Answers b q list r list
  unfolding count_by run_list_by
  refused_by e h = record { counted = h ∙ sym (ap (λ c. answer (count_by q.name q.label q.parameter c)) e); listed = sym (ap (λ c. run_list_by c list) e) }

  pub refused_answers : {b : Begun} {r : Answered} {k : ℕ} → b ≡ not_begun k → r ≡ answer (counted k 0 0 0) → Answers b q list r list
  unfolding on
  refused_answers e h = refused_by (ap asks e) h

  module _ {b : Begun} {p : Program} {rs : List Record} (begins : b ≡ begun p rs) {r : Answered} where
    pub list_short : length list < max_commands → r ≡ answer (counted no_room 0 0 0) → Answers b q list r list
    unfolding on with_question asked
    list_short h e = refused_by (ap asks begins ∙ rw (with_question, lt-ltb (length list) max_commands h)) e

    module _ (places : max_commands ≤ length list) (h : r ≡ answer (count_by q.name q.label q.parameter (of_question q.name q.label q.parameter (p, rs)))) where
      room : asks b ≡ of_question q.name q.label q.parameter (p, rs)
      unfolding on with_question asked
      room = ap asks begins ∙ rw (with_question, le-ltb (length list) max_commands places)

      told : r ≡ answer (count_by q.name q.label q.parameter (asks b))
      told = h ∙ sym (ap (λ c. answer (count_by q.name q.label q.parameter c)) room)

      -- the list is untouched where the number is not 0, and listed where it is
      pub number_answers : (r.number ≡ 0 → ⊥) → Answers b q list r list
      unfolding count_by run_list_by
      number_answers f = record { counted = told; listed = sym (ap (λ c. run_list_by c list) room ∙ go (of_question q.name q.label q.parameter (p, rs)) h) }
        where
          go : (c : Begun) → r ≡ answer (count_by q.name q.label q.parameter c) → run_list_by c list ≡ list
          go (stopped k) e = refl
          go (went (p, rs)) e = absurd (f (ap (λ (x : Answered). x.number) e))

      pub listed_answers : r.number ≡ 0 → {list' : List ℕ} → list' ≡ listed p list → Answers b q list r list'
      unfolding count_by run_list_by
      listed_answers f {list'} w =
          record {
            counted = told;
            listed = w ∙ sym (ap (λ c. run_list_by c list) room ∙ question_ways p rs q.name q.label q.parameter
                (λ c. r ≡ answer (count_by q.name q.label q.parameter c) → run_list_by c list ≡ listed p list)
                (λ k g e. absurd (g (sym (ap (λ (x : Answered). x.number) e) ∙ f))) (λ e. refl) h);
          }

-- what images come to is what the call answers
pub entry_answers : (x y : List ℕ) (q : Question) (list : List ℕ) {r : Answered} {list' : List ℕ} → Answers (images x y) q list r list'
    → (r ≡ answer (count x y q.name q.label q.parameter list)) × (list' ≡ count_list x y q.name q.label q.parameter list)
unfolding count count_list count_begins
entry_answers x y q list a = (a.counted, a.listed)
