use Rattle.std.proofs.Common.{◌∙◌, ◌++◌, refl}
use Rattle.std.specs.Prelude.{codes}
use Rattle.canvas_envelope.specs.Pieces.{following_text, list_text}
use Rattle.canvas_envelope.proofs.Joining.{in_six, last, next, seven}
use Rattle.canvas_envelope.proofs.embed.Embed.put.Goals as goal

pub returns : goal.returns
returns c =
    let o = c.args.body.now.items in
    let e = c.args.self.now in
    let a = codes ",{\"callbacks\":" in
    let l = list_text e.links in
    let f = following_text e.following in
    let b = codes ",\"errbacks\":" in
    let r = list_text e.errbacks in
    let s1 = next _ _ l _ c.in_ok-put_list.ensures c.in_ok-put.ensures in
    let s2 = next _ _ (codes ",") _ c.in_ok-put-2.ensures s1 in
    let s3 = next _ _ f _ c.in_ok-put_following.ensures s2 in
    let s4 = next _ _ b _ c.in_ok-put-3.ensures s3 in
    let s5 = next _ _ r _ c.in_ok-put_list-2.ensures s4 in
    last c.put-4.result o c.put_list-2.new.body.items c.put-4.new.text.items (((((a ++ l) ++ codes ",") ++ f) ++ b) ++ r) (codes "}]") _
    (s5 ∙ in_six o a l (codes ",") f b r) c.put-4.ensures (seven a l (codes ",") f b r (codes "}]"))
