-- The requests of the lines of a served store.
use Rattle.std.specs.Prelude.{ℕ, List, codes, if◌then◌else◌}
use Rattle.std.specs.Str.{bytes_eq}
use Rattle.pc_lines.specs.Lines.{spelled}
use Rattle.pc_serving.specs.declared.request.Request.{Request}
use Rattle.pc_serving.specs.declared.request.Request.TheVariants as request

-- the request of the line: a word of serving that is alone in it, or else what the same line of a script spells
abbrev pub request_of : List ℕ → Request
request_of text =
    if bytes_eq text (codes "quit") then request.Quit
    else if bytes_eq text (codes "run") then request.Run
    else if bytes_eq text (codes "stats") then request.Stats
    else request.Line (spelled text)
