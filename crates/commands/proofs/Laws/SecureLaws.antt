-- What is secure is safe wherever at least the living locals are written (01, 'The words of demand 3').
use Rattle.std.specs.Prelude.{ℕ, List, Bool, true, false}
use Rattle.types.specs.Types.{Ty}
use Rattle.commands.specs.Context.{Ctx}
use Rattle.commands.specs.Noted.{Note, Note.n_push, Note.n_this, Note.n_not, Note.n_rd, Note.n_wr, Note.n_get, Note.n_set, Note.n_cons}
use Rattle.commands.specs.Noted.{Note.n_op, Note.n_if, now_written}
use Rattle.commands.specs.Tags.{tags, Asks, Safe, Safe.stop as safe_stop, Safe.act as safe_act}
use Rattle.commands.specs.Living.{alive, Among}
use Rattle.commands.proofs.Laws.StaticParts.{widen}
use Rattle.commands.specs.Secure.{Secure, Secure.stop, Secure.act}

pub now_more : (n : Note) {l w : List ℕ} → Among l w → Among (now_written n l) (now_written n w)
unfolding now_written
now_more (n_push t v) i = i
now_more n_this i = i
now_more n_not i = i
now_more (n_rd k x) i = i
now_more (n_wr k x) i = i
now_more (n_get t x) i = i
now_more (n_set true t x) i = widen x i
now_more (n_set false t x) i = i
now_more (n_cons k) i = i
now_more (n_op o) i = i
now_more (n_if m) i = i

asks_more : (G : Ctx) (n : Note) (χ : List Ty) (f : Bool) {l w : List ℕ} → Among l w → Asks G n (tags χ l f) → Asks G n (tags χ w f)
asks_more G (n_push t v) χ f i a = a
asks_more G n_this χ f i a = a
asks_more G n_not χ f i a = a
asks_more G (n_rd k x) χ f i a = a
asks_more G (n_wr k x) χ f i a = a
asks_more G (n_get t x) χ f i a = (a.0, a.1, i x a.2, a.3)
asks_more G (n_set true t x) χ f i a = a
asks_more G (n_set false t x) χ f i a = (a.0, a.1, i x a.2, a.3)
asks_more G (n_cons k) χ f i a = a
asks_more G (n_op o) χ f i a = a
asks_more G (n_if m) χ f i a = a

-- wherever at least the living locals are written, secure commands are safe
pub secure_safe : {G : Ctx} {c : List Note} {ls : List (List ℕ)} {χ : List Ty} {f : Bool} {w : List ℕ} → Secure G c ls χ f → Among (alive ls) w
    → Safe G c (tags χ w f)
secure_safe stop i = safe_stop
secure_safe {G} {χ = χ} {f = f} (act n a j g s h r) i =
    safe_act n (asks_more G n χ f i a)
    (secure_safe s (λ x m. now_more n i x (g x m)))
    (secure_safe r (λ x m. now_more n i x (h x m)))
