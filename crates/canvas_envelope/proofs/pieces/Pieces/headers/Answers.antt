use Rattle.std.proofs.Common.{◌≡◌, ◌∙◌, ℕ, List, ◌++◌, ap}
use Rattle.std.specs.Prelude.{codes, drop, take, ◌-◌}
use Rattle.canvas_envelope.specs.Pieces.{own_between}
use Rattle.canvas_envelope.proofs.Joining.{next, nine}
use Rattle.canvas_envelope.proofs.pieces.Pieces.headers.Goals as goal

-- a part of the own text, as it is appended
cut : (all before seen text own : List ℕ) (part : List ℕ → List ℕ) → all ≡ before ++ seen → seen ≡ part text → text ≡ own → all ≡ before ++ part own
cut all before seen text own part added is same = added ∙ ap (λ x. before ++ x) (is ∙ ap part same)

pub returns : goal.returns
returns c =
    let p = c.args.self.now in
    let group = own_between p.front_end p.group_end p in
    let id = own_between p.group_end p.id_end p in
    let parent = own_between p.id_end p.parent_end p in
    let name = drop p.parent_end p.own in
    let own = c.get-own.ensures in
    let s1 = next _ _ (codes "{\"group\":") _ c.in_ok-put.ensures c.in_ok-text.ensures.items in
    let group_put = cut _ _ _ _ _ (λ b. take (p.group_end - p.front_end) (drop p.front_end b)) c.in_ok-put-2.ensures c.between.ensures
    (c.deref.ensures.value ∙ own) in
    let s2 = next _ _ group _ group_put s1 in
    let s3 = next _ _ (codes ",\"id\":") _ c.in_ok-put-3.ensures s2 in
    let id_put = cut _ _ _ _ _ (λ b. take (p.id_end - p.group_end) (drop p.group_end b)) c.in_ok-put-4.ensures c.between-2.ensures
    (c.deref-2.ensures.value ∙ own) in
    let s4 = next _ _ id _ id_put s3 in
    let s5 = next _ _ (codes ",\"lang\":\"rs\",\"parent_id\":") _ c.in_ok-put-5.ensures s4 in
    let parent_put = cut _ _ _ _ _ (λ b. take (p.parent_end - p.id_end) (drop p.id_end b)) c.in_ok-put-6.ensures c.between-3.ensures
    (c.deref-3.ensures.value ∙ own) in
    let s6 = next _ _ parent _ parent_put s5 in
    let s7 = next _ _ (codes ",\"root_id\":\"00000000-0000-8000-8000-000000000001\",\"task\":") _ c.in_ok-put-7.ensures s6 in
    let name_put = cut _ _ _ _ _ (drop p.parent_end) c.in_ok-put-8.ensures c.behind.ensures (c.deref-4.ensures.value ∙ own) in
    let s8 = next _ _ name _ name_put s7 in
    let s9 = next _ _ (codes "}") _ c.in_ok-put-9.ensures s8 in
    s9
    ∙ nine (codes "{\"group\":") group (codes ",\"id\":") id (codes ",\"lang\":\"rs\",\"parent_id\":") parent
    (codes ",\"root_id\":\"00000000-0000-8000-8000-000000000001\",\"task\":") name (codes "}")
