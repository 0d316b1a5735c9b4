use Rattle.std.proofs.Common.{refl, subst, sym}
use Rattle.std.proofs.lemmas.Result.{err_from_is_err_and}
use Rattle.pc_model.specs.Database.{KeysRise}
use Rattle.pc_bases.proofs.LaidLists.{lay_rises, laid_list, over_limit, in_limit}
use Rattle.pc_part.proofs.RefusalLaws.{refused_with, lacks_memory, succeeds}
use Rattle.pc_bases.proofs.laying.lay_entries.Goals as goal

pub returns-then-laid_len-gt-MOST_FILE_ENTRIES-clause-refused : goal.returns-then-laid_len-gt-MOST_FILE_ENTRIES-clause-refused
returns-then-laid_len-gt-MOST_FILE_ENTRIES-clause-refused c =
    refused_with _ _ _ (over_limit c.args.point c.args.pairs.now c.args.triples.now c.requires.pairs c.requires.triples c.laid_len.result c.laid_len.ensures c.if-laid_len-gt-MOST_FILE_ENTRIES.true) refl

pub returns-in_err-out-clause-refused : goal.returns-in_err-out-clause-refused
returns-in_err-out-clause-refused c =
    let p = err_from_is_err_and c.from_residual.result c.from_residual.ensures.1 in
    lacks_memory _ p.0 _ (in_limit c.args.point c.args.pairs.now c.args.triples.now c.requires.pairs c.requires.triples c.laid_len.result c.laid_len.ensures c.if-laid_len-gt-MOST_FILE_ENTRIES.false) p.1 p.2

pub returns-clause-rise : goal.returns-clause-rise
returns-clause-rise c = subst KeysRise (sym c.in_ok-out.ensures) (lay_rises c.args.point c.args.pairs.now c.args.triples.now c.requires.pairs c.requires.triples)

pub returns-clause-laid : goal.returns-clause-laid
returns-clause-laid c = laid_list c.args.point c.args.pairs.now c.args.triples.now c.requires.pairs c.requires.triples c.in_ok-out.out.items c.in_ok-out.ensures

pub returns-clause-refused : goal.returns-clause-refused
returns-clause-refused c =
    succeeds _ c.in_ok-out.out (in_limit c.args.point c.args.pairs.now c.args.triples.now c.requires.pairs c.requires.triples c.laid_len.result c.laid_len.ensures c.if-laid_len-gt-MOST_FILE_ENTRIES.false)
