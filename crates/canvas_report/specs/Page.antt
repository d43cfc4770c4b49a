-- A page: an HTML file of the text before its block of data, the block, and the text after it.
use Rattle.std.specs.Prelude.{◌==◌, ◌++◌, ◌∷◌, ℕ, [], codes, flat_map, if◌then◌else◌}
use Rattle.canvas_task.specs.Text.{Text}
use Rattle.canvas_report.specs.declared.page.template.TheConstants.{HEAD, TAIL}

-- How a byte is written in the block. In JSON these three, `<`, `>` and `&`, are only in texts, in
-- which each may be written by its number (RFC 8259, 7). HTML would read them as its own.
abbrev pub escaped_byte : ℕ → Text
escaped_byte b =
    if b == 60 then codes "\\u003c"
    else if b == 62 then codes "\\u003e"
    else if b == 38 then codes "\\u0026"
    else b ∷ []

abbrev pub escaped : Text → Text
escaped text = flat_map escaped_byte text

-- the page whose block is this text
unfoldable pub page_of : Text → Text
page_of text = HEAD.now ++ escaped text ++ TAIL.now
