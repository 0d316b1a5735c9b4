use Rattle.std.proofs.Common.{refl, subst, sym, ap, ◌∙◌, Err}
use Rattle.std.proofs.lemmas.Result.{err_from_is_err_and}
use Rattle.pc_model.specs.Database.{KeysRise}
use Rattle.pc_part.proofs.JoinedFiles.{joined_list, join_rises, joined_covered, due_conflict, due_full, due_nothing}
use Rattle.pc_part.proofs.RefusalLaws.{refused_with, lacks_memory, succeeds}
use Rattle.pc_part.proofs.joining.merge_entries.Goals as goal

pub returns-clause-joined : goal.returns-clause-joined
returns-clause-joined c = joined_list c.args.a.now c.args.b.now c.requires.left c.requires.right c.in_ok-out.out.items c.in_ok-out.ensures

pub returns-clause-covered : goal.returns-clause-covered
returns-clause-covered c points in_a in_b = joined_covered points c.args.a.now c.args.b.now c.in_ok-out.out.items in_a in_b c.in_ok-out.ensures

pub returns-clause-rise : goal.returns-clause-rise
returns-clause-rise c = subst KeysRise (sym c.in_ok-out.ensures) (join_rises c.args.a.now c.args.b.now c.requires.left c.requires.right)

pub returns-in_err-len-clause-refused : goal.returns-in_err-len-clause-refused
returns-in_err-len-clause-refused c =
    let p = err_from_is_err_and c.from_residual.result c.from_residual.ensures.1 in
    refused_with _ c.in_err-len.field-0.0 _ (due_conflict c.args.a.now c.args.b.now c.requires.left c.requires.right c.joined_len.result c.in_err-len.field-0.0 c.joined_len.ensures c.in_err-len.was) (p.1 ∙ ap (λ e. Err e) p.2)

pub returns-then-len-gt-MOST_FILE_ENTRIES-clause-refused : goal.returns-then-len-gt-MOST_FILE_ENTRIES-clause-refused
returns-then-len-gt-MOST_FILE_ENTRIES-clause-refused c =
    refused_with _ _ _ (due_full c.args.a.now c.args.b.now c.requires.left c.requires.right c.joined_len.result c.in_ok-len.len c.joined_len.ensures c.in_ok-len.was c.if-len-gt-MOST_FILE_ENTRIES.true) refl

pub returns-in_err-out-clause-refused : goal.returns-in_err-out-clause-refused
returns-in_err-out-clause-refused c =
    let p = err_from_is_err_and c.from_residual-in_err-out.result c.from_residual-in_err-out.ensures.1 in
    lacks_memory _ p.0 _ (due_nothing c.args.a.now c.args.b.now c.requires.left c.requires.right c.joined_len.result c.in_ok-len.len c.joined_len.ensures c.in_ok-len.was c.if-len-gt-MOST_FILE_ENTRIES.false) p.1 p.2

pub returns-clause-refused : goal.returns-clause-refused
returns-clause-refused c =
    succeeds _ c.in_ok-out.out (due_nothing c.args.a.now c.args.b.now c.requires.left c.requires.right c.joined_len.result c.in_ok-len.len c.joined_len.ensures c.in_ok-len.was c.if-len-gt-MOST_FILE_ENTRIES.false)
