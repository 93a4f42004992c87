-- Words that a list holds, in parts.
use Rattle.std.specs.Prelude.{ℕ, ◌+◌, ◌≤◌, ◌≡◌, refl, List, [], ◌∷◌, ◌++◌, length, take, drop}
use Rattle.std.proofs.Common.{arith, ap, subst, ◌∙◌, append_assoc, length-append, take_at, drop_at}
use Rattle.program.specs.Tree.{Step, Program}
use Rattle.commands.specs.Bounds.{total, step_list, step_size}
use Rattle.commands.specs.Coding.{words}
use Rattle.commands.specs.ProgramWords.{step_words, steps_words, structs_words, program_words}
use Rattle.commands.proofs.ProgramWordsLaws.{more_steps, more_structs, step_length, steps_length}
use Rattle.directory.specs.Held.{Holds}

-- a list that begins with a program's words holds those of its structs
pub holds_program : (p : Program) (list back : List ℕ) → list ≡ program_words p ++ back → Holds list 0 (structs_words p.steps)
unfolding program_words
holds_program p list back e = record { front = []; back = back; is = e; place = refl }

module _ {list : List ℕ} {a : ℕ} where
  -- in the list, and as a part of it
  holds_in : {ws : List ℕ} → Holds list a ws → a + length ws ≤ length list
  holds_in h = omega (arith, simp length-append at (ap length h.is), h.place)

  holds_part : {ws : List ℕ} (n : ℕ) → length ws ≡ n → Holds list a ws → take n (drop a list) ≡ ws
  holds_part {ws} n e h = rw (h.is, drop_at h.front (ws ++ h.back) a h.place) (take_at ws h.back n e)

  -- words behind words
  holds_first : (u v : List ℕ) → Holds list a (u ++ v) → Holds list a u
  holds_first u v h = record { front = h.front; back = v ++ h.back; is = h.is ∙ rw append_assoc; place = h.place }

  holds_next : (u v : List ℕ) (n : ℕ) → length u ≡ n → Holds list a (u ++ v) → Holds list (a + n) v
  holds_next u v n e h =
      record { front = h.front ++ u; back = h.back; is = h.is ∙ simp append_assoc; place = rw (length-append, h.place, e) }

  -- the words of a step, and of those behind it; those of a struct's steps, and of the structs behind it
  pub holds_step : (t : Step) (ts : List Step) → Holds list a (steps_words (t ∷ ts))
      → (Holds list a (step_words t)) × (Holds list (a + step_size t) (steps_words ts))
  holds_step t ts h =
      let g = subst (Holds list a) (more_steps t ts) h in
      (holds_first (step_words t) (steps_words ts) g, holds_next (step_words t) (steps_words ts) (step_size t) (step_length t) g)

  pub holds_struct : (ts : List Step) (tss : List (List Step)) → Holds list a (structs_words (ts ∷ tss))
      → (Holds list a (steps_words ts)) × (Holds list (a + total step_size ts) (structs_words tss))
  holds_struct ts tss h =
      let g = subst (Holds list a) (more_structs ts tss) h in
      (holds_first (steps_words ts) (structs_words tss) g, holds_next (steps_words ts) (structs_words tss) (total step_size ts) (steps_length ts) g)

  -- and the part that a row of the step marks
  pub holds_words : (t : Step) → Holds list a (step_words t) → take (step_size t) (drop a list) ≡ words (step_list t)
  unfolding step_words
  holds_words t h = holds_part (step_size t) (step_length t) h

  pub holds_size : (t : Step) → Holds list a (step_words t) → a + step_size t ≤ length list
  holds_size t h = omega (arith, holds_in h, step_length t)
