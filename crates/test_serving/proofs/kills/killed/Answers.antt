use Rattle.std.proofs.Common.{inl, List, [], ℕ, Option, Some, take, refl, ap, ◌∙◌}
use Rattle.std.specs.Borrow.{Bor}
use Rattle.std.specs.Global.{Vec}
use Rattle.std.specs.declared.alloc.Global.{Global}
use Rattle.std.specs.Io.Buffered.{reader_remaining}
use Rattle.std.specs.declared.io.buffered.BufReader.{BufReader}
use Rattle.pc_io.specs.Tallies.{inner_of}
use Rattle.pc_model.specs.Files.{BaseFile}
use Rattle.pc_engine.specs.Store.{setting_of}
use Rattle.pc_log.specs.Texts.{header_text}
use Rattle.pc_server.specs.Inputs.{EndsServed, HasStopped}
use Rattle.test_serving.specs.declared.kills.KnownLog.{KnownLog}
use Rattle.test_serving.specs.declared.kills.NoFiles.{NoFiles}
use Rattle.test_serving.proofs.KillLaws.{all_kept, all_left, however_it_ends, none_at_first, serves_from}
use Rattle.test_serving.proofs.kills.killed.Goals as goal

abbrev written : KnownLog → Option (List ℕ)
written log = Some log.bytes.items

abbrev kept : KnownLog → Option (List ℕ)
kept log = Some (take log.kept log.bytes.items)

abbrev contents : Vec ℕ → Option (List ℕ)
contents out = Some out.items

abbrev remaining : BufReader (Bor (List ℕ)) Global → Option (List ℕ)
remaining reader = reader_remaining (λ (s : Bor (List ℕ)). Some s.now) reader

pub serve_input-requires : goal.serve_input-requires
serve_input-requires c =
    let text = remaining c.in-Ok-with_capacity.input in
    let serves = c.new-service.ensures.serves c.requires (all_kept c.in-Ok.log.kept c.in-Ok.log.bytes.items c.in-Ok.ensures.kept) text in
    (Some c.in-Ok.log.bytes.items, Some (inner_of c.new-3.result).items, text, setting_of c.args.world, c.args.lag, record { refused = 0 }, ([], serves, none_at_first, λ point content now. inl now))

pub returns-clause-killed : goal.returns-clause-killed
returns-clause-killed c =
    let st = setting_of c.args.world in
    let header = Some (header_text st.run) in
    let lines = Some c.args.lines.now in
    let files : NoFiles = record { refused = 0 } in
    let serves = serves_from written kept contents st c.args.lag (Some c.in-Ok.log.bytes.items) header (Some (inner_of c.new-3.result).items) (Some []) lines (remaining c.in-Ok-with_capacity.input) c.new-service.result
    (ap (λ (t : List ℕ). Some t) c.in-Ok.ensures.header ∙ ap (λ n. Some (header_text n)) (c.run-run.ensures ∙ ap (λ (b : BaseFile). b.run) c.base.ensures))
    (ap (λ (v : Vec ℕ). Some v.items) c.new-3.ensures.inner ∙ ap (λ (t : List ℕ). Some t) c.new-2.ensures.items)
    (all_left c.in-Ok-with_capacity.input c.args.lines c.in-Ok-with_capacity.ensures.inner c.in-Ok-with_capacity.ensures.empty c.in-Ok-with_capacity.ensures.capacity)
    (c.new-service.ensures.serves c.requires (all_kept c.in-Ok.log.kept c.in-Ok.log.bytes.items c.in-Ok.ensures.kept) lines) in
    however_it_ends (λ why some. HasStopped written kept contents header (Some []) lines st c.args.lag (remaining c.serve_input.new.input) some c.serve_input.new.service why)
    (λ some. EndsServed written kept contents header (Some []) lines st c.args.lag some c.serve_input.new.service.log (inner_of c.serve_input.new.service.out))
    c.serve_input.result (c.serve_input.ensures.served header (Some []) lines st c.args.lag files ([], serves, none_at_first, λ point text now. inl now))
    (λ why some ends only. c.kills_lose_no_answer.ensures lines (remaining c.serve_input.new.input) why st c.args.lag [] (inner_of c.serve_input.new.service.out).items some files refl ends only (λ point text there. absurd there))

pub returns-clause-cut : goal.returns-clause-cut
returns-clause-cut c =
    let st = setting_of c.args.world in
    let header = Some (header_text st.run) in
    let lines = Some c.args.lines.now in
    let files : NoFiles = record { refused = 0 } in
    let serves = serves_from written kept contents st c.args.lag (Some c.in-Ok.log.bytes.items) header (Some (inner_of c.new-3.result).items) (Some []) lines (remaining c.in-Ok-with_capacity.input) c.new-service.result
    (ap (λ (t : List ℕ). Some t) c.in-Ok.ensures.header ∙ ap (λ n. Some (header_text n)) (c.run-run.ensures ∙ ap (λ (b : BaseFile). b.run) c.base.ensures))
    (ap (λ (v : Vec ℕ). Some v.items) c.new-3.ensures.inner ∙ ap (λ (t : List ℕ). Some t) c.new-2.ensures.items)
    (all_left c.in-Ok-with_capacity.input c.args.lines c.in-Ok-with_capacity.ensures.inner c.in-Ok-with_capacity.ensures.empty c.in-Ok-with_capacity.ensures.capacity)
    (c.new-service.ensures.serves c.requires (all_kept c.in-Ok.log.kept c.in-Ok.log.bytes.items c.in-Ok.ensures.kept) lines) in
    however_it_ends (λ why some. HasStopped written kept contents header (Some []) lines st c.args.lag (remaining c.serve_input.new.input) some c.serve_input.new.service why)
    (λ some. EndsServed written kept contents header (Some []) lines st c.args.lag some c.serve_input.new.service.log (inner_of c.serve_input.new.service.out))
    c.serve_input.result (c.serve_input.ensures.served header (Some []) lines st c.args.lag files ([], serves, none_at_first, λ point text now. inl now))
    (λ why some ends only. c.serving_loses_no_answer.ensures lines (remaining c.serve_input.new.input) why st c.args.lag [] (inner_of c.serve_input.new.service.out).items some files refl ends only (λ point text there. absurd there))
