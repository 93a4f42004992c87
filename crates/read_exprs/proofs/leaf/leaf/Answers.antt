-- `leaf::leaf` meets its contract, by a law for each form.
use Rattle.std.proofs.Common.{arith, sym, ◌∙◌}
use Rattle.read_exprs.specs.FormWays.{Apart}
use Rattle.read_exprs.specs.ExprWays.{rule_path, rule_int, rule_nat, rule_bool, rule_null, rule_self, rule_none}
use Rattle.read_exprs.proofs.leaf.leaf.Goals as goal

pub returns-then-b-eq-PATH : goal.returns-then-b-eq-PATH
returns-then-b-eq-PATH c =
    let a = c.args in record { by_index = λ rec p. c.travel.ensures.value ∙ sym (rule_path a.names.now.ar.now a.names.now.types.now a.s.now a.names.now.own a.live rec p a.at a.b c.if-b-eq-PATH.true); behind = c.travel.ensures.behind }

pub returns-then-b-eq-INT : goal.returns-then-b-eq-INT
returns-then-b-eq-INT c =
    let a = c.args in record { by_index = λ rec p. c.word.ensures.value ∙ sym (rule_int a.names.now.ar.now a.names.now.types.now a.s.now a.names.now.own a.live rec p a.at a.b c.if-b-eq-INT.true); behind = c.word.ensures.behind }

pub returns-then-b-eq-NAT : goal.returns-then-b-eq-NAT
returns-then-b-eq-NAT c =
    let a = c.args in record { by_index = λ rec p. c.word-then-b-eq-NAT.ensures.value ∙ sym (rule_nat a.names.now.ar.now a.names.now.types.now a.s.now a.names.now.own a.live rec p a.at a.b c.if-b-eq-NAT.true); behind = c.word-then-b-eq-NAT.ensures.behind }

pub returns-then-b-eq-BOOL : goal.returns-then-b-eq-BOOL
returns-then-b-eq-BOOL c =
    let a = c.args in record { by_index = λ rec p. c.bool_byte.ensures.value ∙ sym (rule_bool a.names.now.ar.now a.names.now.types.now a.s.now a.names.now.own a.live rec p a.at a.b c.if-b-eq-BOOL.true); behind = c.bool_byte.ensures.behind }

pub returns-then-b-eq-NULL : goal.returns-then-b-eq-NULL
returns-then-b-eq-NULL c =
    let a = c.args in record { by_index = λ rec p. c.null.ensures.value ∙ sym (rule_null a.names.now.ar.now a.names.now.types.now a.s.now a.names.now.own a.live rec p a.at a.b c.if-b-eq-NULL.true); behind = c.null.ensures.behind }

pub returns-then-b-eq-THIS : goal.returns-then-b-eq-THIS
returns-then-b-eq-THIS c =
    let a = c.args in
    record { by_index = rw c.pushed.ensures (λ rec p. sym (rule_self a.names.now.ar.now a.names.now.types.now a.s.now a.names.now.own a.live rec p a.at a.b c.if-b-eq-THIS.true)); behind = rw c.pushed.ensures (omega (arith, c.requires.at_in_bounds)) }

pub returns : goal.returns
returns c =
    let a = c.args in
    let n : Apart a.b = (
      c.requires.fact.0.0,
      c.requires.fact.0.1,
      c.if-b-eq-PATH.false,
      c.if-b-eq-INT.false,
      c.if-b-eq-NAT.false,
      c.if-b-eq-BOOL.false,
      c.if-b-eq-NULL.false,
      c.if-b-eq-THIS.false,
    ) in record { by_index = λ rec p. sym (rule_none a.names.now.ar.now a.names.now.types.now a.s.now a.names.now.own a.live rec p a.at a.b n (λ q. omega (arith, q.0, c.requires.fact.1))); behind = tt }
