-- The four ways are those of `sort_added`: over the tree size, another size written, no room, and the sort interned.
-- `intern` says which of the last two, and the table is written at one place.
use Rattle.std.proofs.Common.{◌≡◌, rules, sym, ◌∙◌}
use Rattle.std.proofs.lemmas.Result.{err_from_is_err_and}
use Rattle.sheet.proofs.SortLaws.{interned_as, add-large, add-wrong, add_refused, add-put}
use Rattle.sheet.proofs.sorts.add_sort.Goals as goal

pub returns-then-weight-gt-LARGEST_TREE-clause-added : goal.returns-then-weight-gt-LARGEST_TREE-clause-added
returns-then-weight-gt-LARGEST_TREE-clause-added c = add-large c.requires c.args.written c.tree_size-weight.ensures c.if-weight-gt-LARGEST_TREE.true

pub returns-then-not-agrees-clause-added : goal.returns-then-not-agrees-clause-added
returns-then-not-agrees-clause-added c =
    add-wrong c.requires c.args.written c.tree_size-weight.ensures c.if-weight-gt-LARGEST_TREE.false (sym c.agrees.ensures ∙ c.if-not-agrees.true)

pub returns-in_err-k-clause-added : goal.returns-in_err-k-clause-added
returns-in_err-k-clause-added c = let row : c.map_err.result ≡ interned_as c.intern.result = search rules in
    let p = err_from_is_err_and c.from_residual.result c.from_residual.ensures.1 in
    let t = c.intern.new.self in
    rw (p.1, p.2)
    (add_refused c.requires c.args.written c.tree_size-weight.ensures c.if-weight-gt-LARGEST_TREE.false (sym c.agrees.ensures ∙ c.if-not-agrees.false) t.records.now t.places.now t.index.now t.count t.used c.intern.result _
    (sym row ∙ c.in_err-k.was) c.intern.ensures.interned)

pub returns-clause-added : goal.returns-clause-added
returns-clause-added c = let row : c.map_err.result ≡ interned_as c.intern.result = search rules in
    let t = c.intern.new.self in
    add-put c.requires c.args.written c.tree_size-weight.ensures c.if-weight-gt-LARGEST_TREE.false (sym c.agrees.ensures ∙ c.if-not-agrees.false) t.records.now t.places.now t.index.now t.count t.used c.intern.result c.in_ok-k.k
    (sym row ∙ c.in_ok-k.was) c.intern.ensures.interned
