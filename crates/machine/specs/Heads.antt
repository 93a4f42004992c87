-- The next command of an instance, in its code and in the commands that it stands for.
use Rattle.std.specs.Prelude.{ℕ, ◌+◌, ◌≡◌, refl, Bool, List, [], ◌∷◌, ◌++◌, map, length}
use Rattle.std.proofs.Common.{subst, arith}
use Rattle.types.specs.Limits.{first_local}
use Rattle.types.specs.Types.{Ty}
use Rattle.types.specs.Values.{Val}
use Rattle.program.specs.Tree.{Op}
use Rattle.commands.specs.Commands.{Com, Com.push, Com.push_this, Com.rd, Com.wr, Com.cons, Com.not, Com.oper, Coms, Coms.nil, Coms.act, Coms.if_then}
use Rattle.commands.specs.Commands.{Flat, Flat.plain, Flat.if_n, flatten}
use Rattle.commands.specs.Noted.{Note, Note.n_push, Note.n_this, Note.n_not, Note.n_rd, Note.n_wr, Note.n_get, Note.n_set, Note.n_cons, Note.n_op}
use Rattle.commands.specs.Noted.{Note.n_if, erase}
use Rattle.machine.specs.Machine.{Source}
use Rattle.machine.specs.Performed.{Reads, Reads.parameter, Reads.of_local, Writes, Writes.to_parameter, Writes.to_local}

-- a plain command in front of a flat list is that in front of the nested one
pub plain_head : (d : Coms) (f : Com) (r : List Flat) → plain f ∷ r ≡ flatten d → (c : Coms) × (d ≡ act f c) × (r ≡ flatten c)
unfolding flatten
plain_head nil f r e = (nil, cc, cc)
plain_head (act g c) f r e = (c, cc, cc)
plain_head (if_then b c) f r e = (nil, cc, cc)

-- and so is an if, with its body and the rest after it
pub if_head : (d : Coms) (n : ℕ) (r : List Flat) → if_n n ∷ r ≡ flatten d
    → (b c : Coms) × (d ≡ if_then b c) × (n ≡ length (flatten b)) × (r ≡ flatten b ++ flatten c)
unfolding flatten
if_head nil n r e = (nil, nil, cc, cc, cc)
if_head (act g c) n r e = (nil, nil, cc, cc, cc)
if_head (if_then b c) n r e = (b, c, refl, cc, cc)

-- the notes of a command
pub data Means : Flat → Note → Type 0 where
  m_push : {t : Ty} {v : Val} → Means (plain (push t v)) (n_push t v)
  m_this : Means (plain push_this) n_this
  m_not : Means (plain not) n_not
  m_rd : {k x : ℕ} → Means (plain (rd x)) (n_rd k x)
  m_get : {t : Ty} {v x : ℕ} → first_local + x ≡ v → Means (plain (rd v)) (n_get t x)
  m_wr : {k x : ℕ} → Means (plain (wr x)) (n_wr k x)
  m_set : {d : Bool} {t : Ty} {v x : ℕ} → first_local + x ≡ v → Means (plain (wr v)) (n_set d t x)
  m_cons : {k : ℕ} → Means (plain (cons k)) (n_cons k)
  m_op : {o : Op} → Means (plain (oper o)) (n_op o)
  m_if : {n : ℕ} → Means (if_n n) (n_if n)

-- a note means what it erases to
pub means : (n : Note) → Means (erase n) n
unfolding erase
means (n_push t v) = m_push
means n_this = m_this
means n_not = m_not
means (n_rd k x) = m_rd
means (n_wr k x) = m_wr
means (n_get t x) = m_get refl
means (n_set d t x) = m_set refl
means (n_cons k) = m_cons
means (n_op o) = m_op
means (n_if n) = m_if

-- code that stands for a list with a command in front has a note of it in front
pub next_note : (n : List Note) {f : Flat} {fs : List Flat} → map erase n ≡ f ∷ fs
    → (a : Note) × (r : List Note) × (n ≡ a ∷ r) × (Means f a) × (map erase r ≡ fs)
next_note [] e = let z : ◌≡◌ {A = ℕ} 0 1 = cc in absurd (omega arith)
next_note (a ∷ r) {f} e = (a, r, refl, (let h : erase a ≡ f = cc in subst (λ g. Means g a) h (means a)), cc)

-- a note of rd, or of wr, is one of the published command
pub reads_erase : {n : Note} {v : ℕ} {s : ℕ → Source} → Reads n v s → erase n ≡ plain (rd v)
unfolding erase
reads_erase parameter = refl
reads_erase of_local = refl

pub writes_erase : {n : Note} {v : ℕ} → Writes n v → erase n ≡ plain (wr v)
unfolding erase
writes_erase to_parameter = refl
writes_erase to_local = refl
