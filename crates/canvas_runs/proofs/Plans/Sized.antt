-- Each chord that a message names has the size that the plan has of it.
use Rattle.std.proofs.Common.{◌≡◌, ◌∙◌, ℕ, zero, suc, ◌+◌, true, false, List, [], ◌∷◌, ◌++◌, length, length-append, append_assoc, append-nil, Option, Some, None, refl, sym, ap, subst, arith}
use Rattle.canvas_task.specs.declared.outcome.Outcome.{Outcome}
use Rattle.canvas_task.specs.declared.outcome.Outcome.TheVariants.{Success, Failure}
use Rattle.canvas_semantics.specs.Tree.{Tasks, no_tasks, and_task}
use Rattle.canvas_semantics.specs.Line.{Line, stop, step, group_end, chord_end, Lines, no_lines, and_line, no_of, GroupEntry, group_entries, all_group_entries, entry_at, entry_members, entry_size, members, size, number_line, number_lines, count_line, count_lines, line_groups, lines_groups, all_ends_of, count_line}
use Rattle.canvas_rewrite.specs.Planned.{IsPlan}
use Rattle.canvas_semantics.proofs.Numbered.{groups_numbered, groups_numbered_all}
use Rattle.canvas_effects.specs.Flowing.{Input, list_input, number_input, id_input, LineFlow, run, skips, raise, after_outcome}
use Rattle.canvas_effects.specs.Job.{store, publish, part}
use Rattle.canvas_history.specs.Lists.{Each}
use Rattle.canvas_runs.proofs.Plans.Effects.{Jobs, at_stop, members_place, callbacks, called, enter, enter_all, when_empty, after, body_after, header_fault}
use Rattle.canvas_runs.proofs.Plans.Messages.{Place, nowhere, in_group, in_chord, Carried, carried, errbacks_of, Message, header}
use Rattle.canvas_runs.proofs.Plans.Trees.{AJob, each_by_kind}
use Rattle.canvas_runs.proofs.Lists.Words.{each_append}

module _ (sizes : ℕ → Option ℕ) (table : ℕ → List ℕ) where
  abbrev pub HasSize : ℕ → Type 0
  HasSize g = sizes g ≡ Some (length (table g))

  abbrev mutual
    pub SizedLine : Line → Type 0
    SizedLine stop = Unit {0}
    SizedLine (step t l) = SizedLine l
    SizedLine (group_end g ms) = SizedLines ms
    SizedLine (chord_end g ms b) = HasSize g × SizedLines ms × SizedLine b

    pub SizedLines : Lines → Type 0
    SizedLines no_lines = Unit {0}
    SizedLines (and_line m ms) = SizedLine m × SizedLines ms

  abbrev mutual
    pub SizedPlace : Place → Type 0
    SizedPlace nowhere = Unit {0}
    SizedPlace (in_group g) = Unit {0}
    SizedPlace (in_chord g c) = HasSize g × SizedCarried c

    pub SizedCarried : Carried → Type 0
    SizedCarried (carried n body q) = SizedLine body × SizedPlace q

  abbrev pub SizedMessage : Message → Type 0
  SizedMessage m = SizedLine m.rest × SizedPlace m.place

  abbrev pub SizedJob : AJob → Type 0
  SizedJob (store t o) = Unit {0}
  SizedJob (publish m) = SizedMessage m
  SizedJob (part g t c) = HasSize g × SizedCarried c

  calls_sized : (ts : Tasks) (x : Input) (u : Option ℕ) → Each SizedJob (callbacks ts x u)
  calls_sized no_tasks x u = tt
  calls_sized (and_task t ts) x u = ((tt, tt), calls_sized ts x u)

  stop_sized : (p : Place) (t : ℕ) → SizedPlace p → Each SizedJob (at_stop p t)
  stop_sized nowhere t s = tt
  stop_sized (in_group g) t s = tt
  stop_sized (in_chord g c) t s = (s, tt)

  place_sized : (g : ℕ) (ms : Lines) (body : Line) (p : Place) → HasSize g → SizedLine body → SizedPlace p → SizedPlace (members_place g ms body p)
  place_sized g no_lines body p h b s = tt
  place_sized g (and_line m ms) body p h b s = (h, (b, s))

  empty_sized : (ms : Lines) (js : Jobs) → Each SizedJob js → Each SizedJob (when_empty ms js)
  empty_sized no_lines js a = a
  empty_sized (and_line m ms) js a = tt

  mutual
    pub enter_sized : (l : Line) (x : LineFlow) (p : Place) (t : ℕ) (u : Option ℕ) → SizedLine l → SizedPlace p → Each SizedJob (enter l x p t u)
    enter_sized stop x p t u l s = stop_sized p t s
    enter_sized (step k rest) (run x) p t u l s = ((l, s), tt)
    enter_sized (step k rest) (skips f) p t u l s = (tt, enter_sized rest (skips f) p (no_of k) u l s)
    enter_sized (step k rest) (raise f) p t u l s = (
      tt,
      each_append SizedJob (callbacks (errbacks_of k) (id_input (no_of k)) u) _ (calls_sized (errbacks_of k) (id_input (no_of k)) u)
          (enter_sized rest (skips f) p (no_of k) u l s),
    )
    enter_sized (group_end g ms) x p t u l s = enter_all_sized ms x (in_group g) u l tt
    enter_sized (chord_end g ms body) (run x) p t u l s =
        each_append SizedJob (enter_all ms (run x) (members_place g ms body p) u) _
        (enter_all_sized ms (run x) (members_place g ms body p) u l.1 (place_sized g ms body p l.0 l.2 s))
        (empty_sized ms _ (enter_sized body (run (list_input [])) p 0 u l.2 s))
    enter_sized (chord_end g ms body) (skips f) p t u l s =
        each_append SizedJob (enter_all ms (skips f) nowhere u) _ (enter_all_sized ms (skips f) nowhere u l.1 tt) (enter_sized body (skips f) p 0 u l.2 s)
    enter_sized (chord_end g ms body) (raise f) p t u l s =
        each_append SizedJob (enter_all ms (raise f) nowhere u) _ (enter_all_sized ms (raise f) nowhere u l.1 tt)
        (enter_sized body (raise (header_fault ms f)) p 0 u l.2 s)

    pub enter_all_sized : (ms : Lines) (x : LineFlow) (p : Place) (u : Option ℕ) → SizedLines ms → SizedPlace p → Each SizedJob (enter_all ms x p u)
    enter_all_sized no_lines x p u l s = tt
    enter_all_sized (and_line m ms) x p u l s = each_append SizedJob (enter m x p 0 u) _ (enter_sized m x p 0 u l.0 s) (enter_all_sized ms x p u l.1 s)

  called_sized : (links errbacks : Tasks) (k : ℕ) (o : Outcome) → Each SizedJob (called links errbacks k o)
  called_sized links errbacks k (Success n) = calls_sized links (number_input n) (Some k)
  called_sized links errbacks k (Failure f) = calls_sized errbacks (id_input k) (Some k)

  pub after_sized : (m : Message) (o : Outcome) → SizedMessage m → Each SizedJob (after m o)
  after_sized m o s =
      each_by_kind SizedJob _ (each_append SizedJob (called m.links m.errbacks m.no o) _ (called_sized m.links m.errbacks m.no o)
      (enter_sized m.rest (after_outcome o) m.place m.no (Some m.no) s.0 s.1))

  pub body_sized : (c : Carried) (es : List (ℕ × Outcome)) → SizedCarried c → Each SizedJob (body_after c es)
  body_sized (carried n body q) es s = each_by_kind SizedJob _ (enter_sized body (header es) q 0 None s.0 s.1)

-- ---- a plan's line

-- the one after the others has their count and one for its number
at_seam : (before : List GroupEntry) (t : GroupEntry) (after : List GroupEntry) (g : ℕ) → g ≡ suc (length before) → entry_at (before ++ t ∷ after) g ≡ Some t
at_seam before t after zero e = absurd (omega arith)
at_seam [] t after (suc g) e = let z : g ≡ 0 = omega arith in rw z refl
at_seam (b ∷ before) t after (suc zero) e = absurd (omega arith)
at_seam (b ∷ before) t after (suc (suc g)) e = at_seam before t after (suc g) (omega arith)

mutual
  entries_length : (l : Line) → length (group_entries l) ≡ line_groups l
  entries_length stop = refl
  entries_length (step t l) = entries_length l
  entries_length (group_end g ms) = omega (arith, all_entries_length ms)
  entries_length (chord_end g ms b) = omega (arith, length-append (all_group_entries ms) (group_entries b), all_entries_length ms, entries_length b)

  all_entries_length : (ms : Lines) → length (all_group_entries ms) ≡ lines_groups ms
  all_entries_length no_lines = refl
  all_entries_length (and_line m ms) = omega (arith, length-append (group_entries m) (all_group_entries ms), entries_length m, all_entries_length ms)

module _ (whole : List GroupEntry) where
  abbrev its_size : ℕ → Option ℕ
  its_size g = entry_size (entry_at whole g)

  abbrev its_members : ℕ → List ℕ
  its_members g = entry_members (entry_at whole g)

  own_size : (before after : List GroupEntry) (ns : List ℕ) (g : ℕ) → g ≡ suc (length before) → whole ≡ before ++ record { chord = true; members = ns } ∷ after
      → HasSize its_size its_members g
  own_size before after ns g e w =
      let at_g : entry_at whole g ≡ Some (record { chord = true; members = ns }) =
      ap (λ ts. entry_at ts g) w ∙ at_seam before (record { chord = true; members = ns }) after g e in
      ap entry_size at_g ∙ sym (ap (λ t. Some (length (entry_members t))) at_g)

  mutual
    line_sized : (l : Line) (k g : ℕ) (before after : List GroupEntry) → g ≡ suc (length before)
        → whole ≡ before ++ (group_entries (number_line k g l) ++ after) → SizedLine its_size its_members (number_line k g l)
    line_sized stop k g before after at w = tt
    line_sized (step t l) k g before after at w = line_sized l _ g before after at w
    line_sized (group_end _ ms) k g before after at w =
        let nms : Lines = number_lines k (g + 1) ms in
        let mine : GroupEntry = record { chord = false; members = all_ends_of nms } in
        lines_sized ms k (g + 1) (before ++ mine ∷ []) after (omega (arith, length-append before (mine ∷ [])))
        (w ∙ sym (append_assoc before (mine ∷ []) (all_group_entries nms ++ after)))
    line_sized (chord_end _ ms b) k g before after at w =
        let nms : Lines = number_lines k (g + 1) ms in
        let nb : Line = number_line (k + count_lines ms) (g + 1 + lines_groups ms) b in
        let mine : GroupEntry = record { chord = true; members = all_ends_of nms } in
        let split : whole ≡ before ++ mine ∷ (all_group_entries nms ++ (group_entries nb ++ after)) =
        w ∙ ap (λ ts. before ++ mine ∷ ts) (append_assoc (all_group_entries nms) (group_entries nb) after) in
        let first : whole ≡ (before ++ mine ∷ []) ++ (all_group_entries nms ++ (group_entries nb ++ after)) =
        split ∙ sym (append_assoc before (mine ∷ []) (all_group_entries nms ++ (group_entries nb ++ after))) in (
          own_size before (all_group_entries nms ++ (group_entries nb ++ after)) (all_ends_of nms) g at split,
          lines_sized ms k (g + 1) (before ++ mine ∷ []) (group_entries nb ++ after) (omega (arith, length-append before (mine ∷ []))) first,
          line_sized b (k + count_lines ms) (g + 1 + lines_groups ms) ((before ++ mine ∷ []) ++ all_group_entries nms) after
              (omega (
                arith,
                length-append before (mine ∷ []),
                length-append (before ++ mine ∷ []) (all_group_entries nms),
                all_entries_length nms,
                groups_numbered_all ms k (g + 1),
              ))
              (first ∙ sym (append_assoc (before ++ mine ∷ []) (all_group_entries nms) (group_entries nb ++ after))),
        )

    lines_sized : (ms : Lines) (k g : ℕ) (before after : List GroupEntry) → g ≡ suc (length before)
        → whole ≡ before ++ (all_group_entries (number_lines k g ms) ++ after) → SizedLines its_size its_members (number_lines k g ms)
    lines_sized no_lines k g before after at w = tt
    lines_sized (and_line m ms) k g before after at w =
        let nm : Line = number_line k g m in
        let nms : Lines = number_lines (k + count_line m) (g + line_groups m) ms in
        let split : whole ≡ before ++ (group_entries nm ++ (all_group_entries nms ++ after)) =
        w ∙ ap (λ ts. before ++ ts) (append_assoc (group_entries nm) (all_group_entries nms) after) in (
          line_sized m k g before (all_group_entries nms ++ after) at split,
          lines_sized ms (k + count_line m) (g + line_groups m) (before ++ group_entries nm) after
              (omega (arith, length-append before (group_entries nm), entries_length nm, groups_numbered m k g))
              (split ∙ sym (append_assoc before (group_entries nm) (all_group_entries nms ++ after))),
        )

pub plan_sized : (l : Line) → IsPlan l → SizedLine (size l) (members l) l
plan_sized l plan =
    let whole : group_entries l ≡ group_entries (number_line 1 1 l) ++ [] =
    sym (ap group_entries plan.numbered) ∙ sym (append-nil (group_entries (number_line 1 1 l))) in
    subst (SizedLine (size l) (members l)) plan.numbered (line_sized (group_entries l) l 1 1 [] [] refl whole)
