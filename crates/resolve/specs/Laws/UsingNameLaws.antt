-- The pass over uses and the pass with its trees forgotten agree on names and types.
use Rattle.std.specs.Prelude.{ℕ, suc, ◌+◌, ◌-◌, ◌<◌, Bool}
use Rattle.std.proofs.Common.{arith, add-one, ◌∙◌}
use Rattle.std.proofs.Math.Path.{◌≡◌, refl, sym, ap, subst}
use Rattle.std.proofs.Math.Bool.{true, false}
use mathlib.Core.List.{List, [], ◌∷◌, map}
use Rattle.std.proofs.Math.Option.{Option, none, some}
use Rattle.std.proofs.Math.ListN.{length, get_or, drop, length-map, length-drop}
use Rattle.std.proofs.Math.Seq.{drop-drop}
use Rattle.std.proofs.Math.Dec.{leb, ltb}
use borrow.Author.Tests.{lt-ltb, le-ltb}
use Rattle.types.proofs.Laws.ListLaws.{cons_eq}
use Rattle.types.specs.Limits.{first_local, max_locals}
use Rattle.types.specs.Types.{Ty, struct_code, code}
use Rattle.program.specs.Tree.{Var.loc}
use Rattle.program.specs.Encoding.{var_code}
use Rattle.syntax.specs.Syntax.{Id, TypeName, TypeName.int_type, TypeName.nat_type, TypeName.bool_type, TypeName.id_type, Par, Struct}
use Rattle.meaning.specs.Scope.{par_id, par_type, struct_id, pars_of, Local, local_id, local_number, local_type}
use Rattle.meaning.specs.Finding.{Place, find, absent}
use Rattle.meaning.specs.Meant.{then, provided, type_meaning, referred, Start, started, start}
use Rattle.text_shape.specs.Roles.{Naming, Naming.new_struct, Naming.new_par, Naming.new_step, Naming.new_local, Naming.first_read, Naming.first_written}
use Rattle.text_shape.specs.Roles.{Naming.later_variable, Naming.made, Naming.made_statement, Naming.called, Naming.called_struct, Naming.called_step, Typed}
use Rattle.text_shape.specs.Roles.{Typed.of_par, Typed.of_local, Typed.of_null}
use Rattle.resolve.specs.Named.{sought}
use Rattle.resolve.specs.Checks.{byte_of}
use Rattle.resolve.specs.Laws.DeclarationLaws.{type_known}
use Rattle.resolve.specs.Laws.NamedLaws.{same_names}
use Rattle.resolve.specs.Laws.SoughtLaws.{missing, present, at_place, absent_not, absent_so, absent_sought, at_front}
use Rattle.resolve.specs.Passing.{Pass, leaves, begins, makes, starts, numbered, declares, pass_name, pass_type}
use Rattle.resolve.specs.Using.{Book, book_of, Use, leave, begin, own_row, chosen, use_listed, use_par, use_local, use_made, use_first, use_behind}
use Rattle.resolve.specs.Using.{use_new, use_name, use_type}
use Rattle.resolve.specs.Laws.UsingLaws.{Agrees, Both, Both.neither, Both.both, both_if, names_alive, numbers_alive, bytes_alive, agree_moves}
use Rattle.resolve.specs.Laws.UsingLaws.{agree_leave, agree_due, agree_new}

module _ (ds : List Struct) (names : List Id) where
  abbrev byte : TypeName → ℕ
  byte t = byte_of (map struct_id ds) t

  abbrev structs : List Id
  structs = map struct_id ds

  abbrev book : Book
  book = book_of ds names

  module _ {p : Pass} {u : Use} (s : Agrees ds names p u) where
    abbrev own : List Id
    own = own_row book.rows u.begun

    abbrev own_bytes : List ℕ
    own_bytes = own_row book.types u.begun

    -- a number among others
    listed_both : {A : Type 0} (key : A → Id) (l : List A) (k : List Id) → map key l ≡ k → (x : Id)
        → Both ds names (then (find key x l) (λ f. some (leaves p p.type f.at))) (use_listed k x u)
    unfolding then provided use_listed
    listed_both {A} key l k e x = go (find key x l) refl
      where
        go : (o : Option (Place A)) → find key x l ≡ o → Both ds names (then o (λ f. some (leaves p p.type f.at))) (use_listed k x u)
        go none f = rw (missing key x l k e f) neither
        go (some q) f =
            let h = present key x l k e q f in
            rw h.0 (both (agree_leave ds names s p.type q.at u.type (sought x k) s.type (sym h.1)))

    -- the struct of a constructor
    made_both : (x : Id) → Both ds names (makes ds names x p) (use_made book x u)
    unfolding makes then provided use_made
    made_both x = go (find struct_id x ds) refl
      where
        go : (o : Option (Place Struct)) → find struct_id x ds ≡ o → Both ds names (makes ds names x p) (use_made book x u)
        go none f = rw (f, missing struct_id x ds structs refl f) neither
        go (some q) f =
            let h = present struct_id x ds structs refl q f in
            let row : get_or book.rows (sought x structs) [] ≡ map par_id (pars_of q.element) =
            ap (λ k. get_or book.rows k []) h.1 ∙ at_place struct_id (λ d. map par_id (pars_of d)) [] x ds q f in
            let n : length (pars_of q.element) ≡ length (get_or book.rows (sought x structs) []) =
            sym (ap length row ∙ length-map (pars_of q.element) par_id) in
            rw (f, h.0)
            (both
            (agree_due ds names (agree_leave ds names s p.type q.at u.type (sought x structs) s.type (sym h.1))
            (length (pars_of q.element) ∷ p.dues) (length (get_or book.rows (sought x structs) []) ∷ u.dues) (cons_eq n s.dues)))

    -- a parameter of a row
    par_both : (ps : List Par) (k : List Id) (bs : List ℕ) → map par_id ps ≡ k → map (λ q. byte (par_type q)) ps ≡ bs → (x : Id)
        → Both ds names (then (find par_id x ps) (λ f. some (leaves p (par_type f.element) f.at))) (use_par k bs x u)
    unfolding then provided use_par
    par_both ps k bs e g x = go (find par_id x ps) refl
      where
        go : (o : Option (Place Par)) → find par_id x ps ≡ o
            → Both ds names (then o (λ f. some (leaves p (par_type f.element) f.at))) (use_par k bs x u)
        go none f = rw (missing par_id x ps k e f) neither
        go (some q) f =
            let h = present par_id x ps k e q f in
            let t : byte (par_type q.element) ≡ get_or bs (sought x k) 0 =
            sym
            (ap (λ i. get_or bs i 0) h.1 ∙ ap (λ l. get_or l q.at 0) (sym g)
            ∙ at_place par_id (λ r. byte (par_type r)) 0 x ps q f) in
            rw h.0 (both (agree_leave ds names s (par_type q.element) q.at (get_or bs (sought x k) 0) (sought x k) t (sym h.1)))

    -- a living local
    local_both : (x : Id)
        → Both ds names
        (then (find local_id x p.alive) (λ f. some (leaves p (local_type f.element) (first_local + local_number f.element))))
        (use_local (drop u.fresh u.living) (drop u.fresh u.numbers) (drop u.fresh u.bytes) x u)
    unfolding then provided use_local
    local_both x = go (find local_id x p.alive) refl
      where
        go : (o : Option (Place Local)) → find local_id x p.alive ≡ o
            → Both ds names (then o (λ f. some (leaves p (local_type f.element) (first_local + local_number f.element))))
            (use_local (drop u.fresh u.living) (drop u.fresh u.numbers) (drop u.fresh u.bytes) x u)
        go none f = rw (missing local_id x p.alive (drop u.fresh u.living) (names_alive ds names s) f) neither
        go (some q) f =
            let h = present local_id x p.alive (drop u.fresh u.living) (names_alive ds names s) q f in
            let t : byte (local_type q.element) ≡ get_or (drop u.fresh u.bytes) (sought x (drop u.fresh u.living)) 0 =
            sym
            (ap (λ i. get_or (drop u.fresh u.bytes) i 0) h.1 ∙ ap (λ l. get_or l q.at 0) (sym (bytes_alive ds names s))
            ∙ at_place local_id (λ m. byte (local_type m)) 0 x p.alive q f) in
            let n : local_number q.element ≡ get_or (drop u.fresh u.numbers) (sought x (drop u.fresh u.living)) 0 =
            sym
            (ap (λ i. get_or (drop u.fresh u.numbers) i 0) h.1 ∙ ap (λ l. get_or l q.at 0) (sym (numbers_alive ds names s))
            ∙ at_place local_id local_number 0 x p.alive q f) in
            rw h.0 (both (agree_leave ds names s (local_type q.element) (first_local + local_number q.element) _ _ t (ap (λ m. first_local + m) n)))

    -- the first variable of a path
    first_both : (x : Id) → Both ds names (starts ds names x p) (use_first book x u)
    unfolding starts start started then var_code use_first chosen
    first_both x = go (find par_id x p.own) refl (par_both p.own own own_bytes s.own s.types x) (local_both x)
      where
        start_of : Place Local → Start
        start_of f = record { variable_of = loc (local_number f.element); type_of = local_type f.element }

        living : Option Use
        living = use_local (drop u.fresh u.living) (drop u.fresh u.numbers) (drop u.fresh u.bytes) x u

        by_local : (o : Option (Place Local))
            → then (then o (λ f. some (start_of f)))
            (λ s. some (leaves p s.type_of (var_code s.variable_of)))
            ≡ then o (λ f. some (leaves p (local_type f.element) (first_local + local_number f.element)))
        by_local none = refl
        by_local (some q) = refl

        go : (o : Option (Place Par)) → find par_id x p.own ≡ o
            → Both ds names (then (find par_id x p.own) (λ f. some (leaves p (par_type f.element) f.at))) (use_par own own_bytes x u)
            → Both ds names
            (then (find local_id x p.alive) (λ f. some (leaves p (local_type f.element) (first_local + local_number f.element))))
            (use_local (drop u.fresh u.living) (drop u.fresh u.numbers) (drop u.fresh u.bytes) x u)
            → Both ds names (starts ds names x p) (use_first book x u)
        go none f a b =
            rw (absent_so par_id x p.own f, missing par_id x p.own own s.own f)
            (subst (λ o. Both ds names o (use_local (drop u.fresh u.living) (drop u.fresh u.numbers) (drop u.fresh u.bytes) x u))
            (sym (by_local (find local_id x p.alive))) b)
        go (some q) f a b =
            let c : Both ds names (some (leaves p (par_type q.element) q.at)) (use_par own own_bytes x u) = rw f at a in
            subst (λ t. Both ds names (starts ds names x p) (chosen t (use_par own own_bytes x u) living)) (sym (present par_id x p.own own s.own q f).0)
            (rw (absent_not par_id x p.own q f, f) c)

    -- a later variable, by the byte of the type before it
    behind_none : (c : ℕ) (x : Id) → c < struct_code → use_behind book c x u ≡ none
    unfolding use_behind chosen
    behind_none c x l = rw (lt-ltb c struct_code l) refl

    behind_some : (c k : ℕ) (x : Id) → c ≡ struct_code + k
        → use_behind book c x u ≡ provided (ltb k (length structs)) (use_par (get_or book.rows k []) (get_or book.types k []) x u)
    unfolding use_behind chosen
    behind_some c k x e =
        let m : c - struct_code ≡ k = omega (arith, e) in
        rw (le-ltb c struct_code (omega (arith, e)), m) refl

    abbrev later : TypeName → Id → Option Pass
    later t x = then (referred ds t) (λ d. then (find par_id x (pars_of d)) (λ f. some (leaves p (par_type f.element) f.at)))

    later_both : (t : TypeName) (x : Id) → Both ds names (later t x) (use_behind book (byte t) x u)
    unfolding referred then byte_of provided
    later_both int_type x = subst (λ o. Both ds names none o) (sym (behind_none 0 x (omega arith))) neither
    later_both nat_type x = subst (λ o. Both ds names none o) (sym (behind_none 1 x (omega arith))) neither
    later_both bool_type x = subst (λ o. Both ds names none o) (sym (behind_none 2 x (omega arith))) neither
    later_both (id_type y) x =
        subst (λ o. Both ds names (later (id_type y) x) o) (sym (behind_some (byte (id_type y)) (sought y structs) x refl)) (go (find struct_id y ds) refl)
      where
        go : (o : Option (Place Struct)) → find struct_id y ds ≡ o
            → Both ds names (later (id_type y) x)
            (provided (ltb (sought y structs) (length structs))
            (use_par (get_or book.rows (sought y structs) []) (get_or book.types (sought y structs) []) x u))
        go none f = rw (f, missing struct_id y ds structs refl f) neither
        go (some q) f =
            let h = present struct_id y ds structs refl q f in
            let row : map par_id (pars_of q.element) ≡ get_or book.rows (sought y structs) [] =
            sym (ap (λ k. get_or book.rows k []) h.1 ∙ at_place struct_id (λ d. map par_id (pars_of d)) [] y ds q f) in
            let bs : map (λ r. byte (par_type r)) (pars_of q.element) ≡ get_or book.types (sought y structs) [] =
            sym (ap (λ k. get_or book.types k []) h.1 ∙ at_place struct_id (λ d. map (λ r. byte (par_type r)) (pars_of d)) [] y ds q f) in
            rw (f, h.0) (par_both (pars_of q.element) (get_or book.rows (sought y structs) []) (get_or book.types (sought y structs) []) row bs x)

    -- a local is declared
    new_both : (x : Id) → Both ds names (declares ds names x p) (use_new book x u)
    unfolding declares use_new
    new_both x =
        both_if ds names (absent x p.met) (leb (length u.met) (sought x u.met))
        (absent_sought x p.met ∙ ap (λ l. leb (length l) (sought x l)) s.met)
        (both_if ds names (absent x (map par_id p.own)) (leb (length own) (sought x own))
        (absent_sought x (map par_id p.own) ∙ ap (λ l. leb (length l) (sought x l)) s.own)
        (both_if ds names (ltb (length p.met) max_locals) (ltb (length u.met) max_locals) (ap (λ l. ltb (length l) max_locals) s.met)
        (both (agree_new ds names s x))))

    -- a struct is begun
    begin_both : Both ds names (begins p p.left) (provided (ltb u.begun (length structs)) (some (begin u)))
    unfolding begins provided begin own_row
    begin_both = go p.left refl
      where
        go : (l : List Struct) → p.left ≡ l → Both ds names (begins p p.left) (provided (ltb u.begun (length structs)) (some (begin u)))
        go [] e =
            let h : length ds - u.begun ≡ 0 = sym (length-drop u.begun ds) ∙ ap length (sym s.left ∙ e) in
            rw (e, le-ltb u.begun (length structs) (omega (arith, h, length-map ds struct_id))) neither
        go (d ∷ l) e =
            let g : drop u.begun ds ≡ d ∷ l = sym s.left ∙ e in
            let n = length-drop u.begun ds in
            rw (e, lt-ltb u.begun (length structs) (omega (arith, n, ap length g, length-map ds struct_id)))
            (both
            (agree_moves ds names s l (pars_of d) p.type (suc u.begun)
            (sym (ap (drop 1) g) ∙ drop-drop 1 u.begun ds ∙ ap (λ n. drop n ds) (add-one u.begun))
            (sym (at_front (λ d. map par_id (pars_of d)) [] u.begun ds d l g))
            (sym (at_front (λ d. map (λ q. byte (par_type q)) (pars_of d)) [] u.begun ds d l g)) s.type s.dues s.out))

    pub name_both : (n : Naming) (x : Id) → Both ds names (pass_name ds names n x p) (use_name book n x u)
    unfolding pass_name use_name numbered
    name_both new_struct x = begin_both
    name_both new_par x = both s
    name_both new_step x = listed_both (λ z. z) names names (same_names names) x
    name_both new_local x = new_both x
    name_both first_read x = first_both x
    name_both first_written x = first_both x
    name_both later_variable x = subst (λ c. Both ds names (later p.type x) (use_behind book c x u)) s.type (later_both p.type x)
    name_both made x = made_both x
    name_both made_statement x = made_both x
    name_both called x = listed_both (λ z. z) names names (same_names names) x
    name_both called_struct x = listed_both struct_id ds structs refl x
    name_both called_step x = listed_both (λ z. z) names names (same_names names) x

    -- a type
    typed_both : (t : TypeName)
        → Both ds names (then (type_meaning ds t) (λ v. some (leaves p t (code v))))
        (provided (ltb (byte t) (struct_code + length structs)) (some (leave u (byte t) (byte t))))
    unfolding then provided
    typed_both t =
        subst
        (λ n. Both ds names (then (type_meaning ds t) (λ v. some (leaves p t (code v))))
        (provided (ltb (byte t) (struct_code + n)) (some (leave u (byte t) (byte t)))))
        (sym (length-map ds struct_id))
        (go (type_meaning ds t) (ltb (byte t) (struct_code + length ds)) (type_known ds t))
      where
        go : (o : Option Ty) (b : Bool) → then o (λ v. some (code v)) ≡ provided b (some (byte t))
            → Both ds names (then o (λ v. some (leaves p t (code v)))) (provided b (some (leave u (byte t) (byte t))))
        go none false e = neither
        go none true e = absurd (let z : ◌≡◌ {A = ℕ} 0 1 = cc in omega arith)
        go (some v) false e = absurd (let z : ◌≡◌ {A = ℕ} 0 1 = cc in omega arith)
        go (some v) true e = let f : code v ≡ byte t = cc in both (agree_leave ds names s t (code v) (byte t) (byte t) refl f)

    pub type_both : (k : Typed) (t : TypeName) → Both ds names (pass_type ds names k t p) (use_type book k t u)
    unfolding pass_type use_type
    type_both of_par t = both s
    type_both of_local t = typed_both t
    type_both of_null t = typed_both t
