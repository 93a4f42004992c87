-- `emit::words::leaf` meets its contract: a law for each test's way.
use Rattle.emit.specs.Laws.LeafLaws.{leaf_in, leaf_word_in, leaf_byte_in, leaf_word_is, leaf_bool_is, leaf_null_is, leaf_this_is}
use Rattle.emit.proofs.words.leaf.Goals as goal

pub bounds-s-at : goal.bounds-s-at
bounds-s-at c = leaf_in c.args.s.now c.args.at c.requires.1

pub word_at-v-requires : goal.word_at-v-requires
word_at-v-requires c = leaf_word_in c.args.s.now c.args.at c.requires.1 c.if-tag-lt-BOOL.true

pub returns-then-tag-lt-BOOL : goal.returns-then-tag-lt-BOOL
returns-then-tag-lt-BOOL c =
    leaf_word_is c.args.s.now c.args.at c.if-tag-lt-BOOL.true c.word_at-v.ensures.0 c.from.ensures
    c.coded.ensures

pub bounds-s-at-then-tag-lt-THIS : goal.bounds-s-at-then-tag-lt-THIS
bounds-s-at-then-tag-lt-THIS c = leaf_byte_in c.args.s.now c.args.at c.requires.1 c.if-tag-lt-BOOL.false c.if-tag-lt-THIS.true

pub returns-then-tag-lt-NULL : goal.returns-then-tag-lt-NULL
returns-then-tag-lt-NULL c =
    leaf_bool_is c.args.s.now c.args.at c.if-tag-lt-BOOL.false c.if-tag-lt-THIS.true c.if-tag-lt-NULL.true
    c.from-then-tag-lt-NULL-2.ensures (rw c.from-then-tag-lt-NULL.ensures at c.coded-then-tag-lt-NULL.ensures)

pub returns-then-tag-lt-THIS : goal.returns-then-tag-lt-THIS
returns-then-tag-lt-THIS c =
    leaf_null_is c.args.s.now c.args.at c.if-tag-lt-BOOL.false c.if-tag-lt-THIS.true c.if-tag-lt-NULL.false c.null_word.ensures

pub returns : goal.returns
returns c =
    leaf_this_is c.args.s.now c.args.at c.if-tag-lt-BOOL.false c.if-tag-lt-THIS.false c.coded-2.ensures
