-- `perform` meets its contract, one return for each kind.
use Rattle.std.proofs.Common.{ℕ, ◌+◌, ◌%◌, ◌<◌, arith, ◌≡◌, refl, List, length, get_or}
use Rattle.types.specs.Limits.{max_instances}
use Rattle.layout.specs.Layout.{head, head_end, struct_of, end_of, operand}
use Rattle.layout.specs.State.{State}
use Rattle.memory.specs.Act.{perform, do_push, do_this, do_rd, do_wr, do_cons, do_if, do_not, answered, do_op}
use Rattle.memory.specs.Fit.{PushFit, ThisFit, RdFit, WrFit, ConsFit, TruthFit, OpFit, Needed}
use Rattle.execute_stack.specs.declared.Actor.{Actor}
use Rattle.execute_stack.specs.Answers.{Answer, seen, Acting, topmost, second, DoesWith}
use Rattle.execute.specs.Ready.{memory}
use Rattle.execute.specs.PerformWays.{acting, handed, needed_by, performs, last_kind}
use Rattle.execute.proofs.perform.Goals as goal
use Rattle.execute.proofs.perform.Goals.{After-operand-v}

-- what the actor that is handed on has, as memory has it
hand : (c : After-operand-v) → (P : Actor → Type 0) → P (seen c.args.heads.now c.args.l) → P (record { label = c.args.l; height = c.head.result; next = c.head-2.result })
hand c = handed c.args.heads.now c.args.l c.head.ensures.0 c.head-2.ensures.0

-- it may act
actor : (c : After-operand-v) → Acting c.args.heads.now c.args.cells.now (seen c.args.heads.now c.args.l)
actor c = acting c.requires.room (c.slice_known-1.given (head c.args.l end_of)).fits

-- what its command needs, where its kind is k
needed : (c : After-operand-v) → (k : ℕ) → c.args.w % 256 ≡ k → Needed c.args.counts.now c.args.l (memory c.args.heads.now c.args.cells.now) k c.operand-v.result
needed c = λ k e. let a = c.args in needed_by a.counts.now a.heads.now a.cells.now a.l a.count a.w k e c.operand-v.ensures.0 c.requires

-- where f is the command of kind k, what does f does the command
does : (c : After-operand-v) → (k : ℕ) → c.args.w % 256 ≡ k → (f : State → State) → ((z : State) → f z ≡ perform c.args.counts.now c.args.l z k c.args.w c.operand-v.result) → (r : Answer) (h' c' : List ℕ) → DoesWith c.args.count f r c.args.heads.now c.args.cells.now h' c' → DoesWith c.args.count (λ z. perform c.args.counts.now c.args.l z (c.args.w % 256) c.args.w (operand c.args.w)) r c.args.heads.now c.args.cells.now h' c'
does c = λ k e. let a = c.args in performs a.counts.now a.heads.now a.cells.now a.l a.count a.w k e c.operand-v.ensures.0

pub push-requires : goal.push-requires
push-requires c =
    let k = (goal.at.push-requires c).After-operand-v in
    let args = c.args in
    let both = hand k (λ (a : Actor). Acting args.heads.now args.cells.now a × PushFit a.height) (actor k, needed k 1 c.in-1.is) in record { acting = both.0; push_fit = both.1 }

pub push_this-requires : goal.push_this-requires
push_this-requires c =
    let k = (goal.at.push_this-requires c).After-operand-v in
    let args = c.args in
    let both = hand k (λ (a : Actor). Acting args.heads.now args.cells.now a × ThisFit a.height (get_or args.heads.now (head a.label struct_of) 0)) (actor k, needed k 2 c.in-2.is) in record { acting = both.0; this_fit = both.1 }

pub read-requires : goal.read-requires
read-requires c =
    let k = (goal.at.read-requires c).After-operand-v in
    let args = c.args in
    let both = hand k (λ (a : Actor). Acting args.heads.now args.cells.now a × RdFit a.height (topmost args.cells.now a) max_instances c.operand-v.result) (actor k, needed k 3 c.in-3.is) in record { acting = both.0; rd_fit = both.1 }

pub write-requires : goal.write-requires
write-requires c =
    let k = (goal.at.write-requires c).After-operand-v in
    let args = c.args in
    let both = hand k (λ (a : Actor). Acting args.heads.now args.cells.now a × WrFit a.height (topmost args.cells.now a) max_instances c.operand-v.result (get_or args.heads.now (head (operand (topmost args.cells.now a)) struct_of) 0) (length args.counts.now)) (actor k, needed k 4 c.in-4.is) in record { acting = both.0; wr_fit = both.1 }

pub construct-requires : goal.construct-requires
construct-requires c =
    let k = (goal.at.construct-requires c).After-operand-v in
    let args = c.args in
    let both = hand k (λ (a : Actor). Acting args.heads.now args.cells.now a × (ConsFit args.counts.now a.height c.operand-v.result × (a.label < args.count))) (actor k, (needed k 5 c.in-5.is, c.requires.among)) in record { acting = both.0; cons_fit = both.1.0; label_lt_count = both.1.1 }

pub branch-heads-requires : goal.branch-heads-requires
branch-heads-requires c =
    let k = (goal.at.branch-heads-requires c).After-operand-v in
    let args = c.args in
    let q = needed k 6 c.in-6.is in
    let end = (k.slice_known-1.given (head args.l end_of)).fits in
    let both = hand k (λ (a : Actor). Acting args.heads.now args.cells.now a × (TruthFit a.height (topmost args.cells.now a) × (a.next + 1 + c.operand-v.result < head_end))) (actor k, (q.test, omega (arith, q.over, end))) in record { acting = both.0; truth_fit = both.1.0; n_bound = both.1.1 }

pub negate-requires : goal.negate-requires
negate-requires c =
    let k = (goal.at.negate-requires c).After-operand-v in
    let args = c.args in
    let both = hand k (λ (a : Actor). Acting args.heads.now args.cells.now a × TruthFit a.height (topmost args.cells.now a)) (actor k, needed k 7 c.in-7.is) in record { acting = both.0; truth_fit = both.1 }

pub overflow_cast-v : goal.overflow_cast-v
overflow_cast-v c =
    let k = (goal.at.overflow_cast-v c).After-operand-v in
    let eighth' : c.args.w % 256 ≡ 8 = let pre = c.requires in let rest = c.in_default.in_default-own.rest in last_kind (c.args.w % 256) pre.least pre.greatest rest.0.0.0.0.0.0.1 rest.0.0.0.0.0.1 rest.0.0.0.0.1 rest.0.0.0.1 rest.0.0.1 rest.0.1 rest.1 in
    omega (arith, (needed k 8 eighth').byte)

pub operate-requires : goal.operate-requires
operate-requires c =
    let k = (goal.at.operate-requires c).After-operand-v in
    let eighth' : c.args.w % 256 ≡ 8 = let pre = c.requires in let rest = c.in_default.in_default-own.rest in last_kind (c.args.w % 256) pre.least pre.greatest rest.0.0.0.0.0.0.1 rest.0.0.0.0.0.1 rest.0.0.0.0.1 rest.0.0.0.1 rest.0.0.1 rest.0.1 rest.1 in
    let args = c.args in
    let both = hand k (λ (a : Actor). Acting args.heads.now args.cells.now a × OpFit a.height (second args.cells.now a) (topmost args.cells.now a) c.operand-v.result) (actor k, needed k 8 eighth') in record { acting = both.0; op_fit = both.1 }

pub returns-in-1 : goal.returns-in-1
unfolding perform do_push
returns-in-1 c =
    let k = (goal.at.returns-in-1 c).After-operand-v in
    does k 1 c.in-1.is _ (λ z. refl) _ _ _ (λ z e. c.push.ensures z)

pub returns-in-2 : goal.returns-in-2
unfolding perform do_this
returns-in-2 c =
    let k = (goal.at.returns-in-2 c).After-operand-v in
    does k 2 c.in-2.is _ (λ z. refl) _ _ _ (λ z e. c.push_this.ensures z)

pub returns-in-3 : goal.returns-in-3
unfolding perform do_rd
returns-in-3 c =
    let k = (goal.at.returns-in-3 c).After-operand-v in
    does k 3 c.in-3.is _ (λ z. refl) _ _ _ (λ z e. c.read.ensures z)

pub returns-in-4 : goal.returns-in-4
unfolding perform do_wr
returns-in-4 c =
    let k = (goal.at.returns-in-4 c).After-operand-v in
    does k 4 c.in-4.is _ (λ z. refl) _ _ _ (λ z e. c.write.ensures z)

pub returns-in-5 : goal.returns-in-5
unfolding perform do_cons
returns-in-5 c =
    let k = (goal.at.returns-in-5 c).After-operand-v in
    does k 5 c.in-5.is _ (λ z. refl) _ _ _ c.construct.ensures

pub returns-in-6 : goal.returns-in-6
unfolding perform do_if
returns-in-6 c =
    let k = (goal.at.returns-in-6 c).After-operand-v in
    does k 6 c.in-6.is _ (λ z. refl) _ _ _ (λ z e. c.branch-heads.ensures z)

pub returns-in-7 : goal.returns-in-7
unfolding perform do_not
returns-in-7 c =
    let k = (goal.at.returns-in-7 c).After-operand-v in
    does k 7 c.in-7.is _ (λ z. refl) _ _ _ (λ z e. c.negate.ensures z)

pub returns-in_default : goal.returns-in_default
unfolding perform do_op answered
returns-in_default c =
    let k = (goal.at.returns-in_default c).After-operand-v in
    let eighth' : c.args.w % 256 ≡ 8 = let pre = c.requires in let rest = c.in_default.in_default-own.rest in last_kind (c.args.w % 256) pre.least pre.greatest rest.0.0.0.0.0.0.1 rest.0.0.0.0.0.1 rest.0.0.0.0.1 rest.0.0.0.1 rest.0.0.1 rest.0.1 rest.1 in
    does k 8 eighth' _ (λ z. refl) _ _ _ (λ z e. c.operate.ensures z)
