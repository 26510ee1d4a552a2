use Rattle.std.proofs.Common.{◌≡◌, ℕ, List, [], ◌∷◌, ◌++◌, length, map, Ok, Err, Result, String, codes, decimal, string_bytes, vec_items, refl, sym, ap, ◌∙◌, subst, rules}
use Rattle.std.specs.declared.alloc.Global.{Global}
use Rattle.refusals.specs.declared.refusal.Refusal.{Refusal}
use Rattle.names.specs.Book.{texts}
use Rattle.calls.specs.declared.call.Side.{Side}
use Rattle.policy.specs.Known.{and_then, in_turn, names_known}
use Rattle.policy_set.specs.Listing.{first_id, all_templates_answer, policies_answer}
use Rattle.policy_set.specs.Maps.{Maps}
use Rattle.policy_set.specs.Meaning.{maps_of}
use Rattle.printing.specs.Answers.{side_word}
use Rattle.printing.specs.Print.{spaced}
use Rattle.console.specs.Answered.{AnswersAs}
use Rattle.console.specs.Dump.{with_templates, with_policies, with_reverses, dump_lines, dump_answer}
use Rattle.console.specs.Listings.{all_templates, all_policies, is_template}
use Rattle.console.specs.declared.stop.Stop.{Stop}
use Rattle.console.specs.declared.stop.Stop.TheVariants.{Wrong, Refused, NoMemory}
use Rattle.console.proofs.dump.dump.Goals.{In_ok-templates, In_ok-policies}
use Rattle.console.proofs.dump.dump.Goals as goal

-- The lines of a dump, of templates and policies that are all.
assembled : (us : List (List ℕ)) (side : Side) (m : Maps) (ts : List ℕ) (ps : List (ℕ × ℕ)) → ts ≡ all_templates m → ps ≡ all_policies m
    → with_reverses us m (with_policies us m (with_templates us m (spaced (codes "dump " ++ side_word side) (decimal (length ts) ∷ decimal (length ps) ∷ [])) ts) ps) ts
    ≡ dump_lines us side m
assembled us side m ts ps t p = rw (t, p) refl

-- Too little memory, or a refusal, before a text is there.
abbrev Stops : Stop → Result (Unit {0}) Refusal → Type 0
Stops stop test = AnswersAs {X = Unit {0}} (λ u. u) (Err stop) test

-- The first test stops.
first_stops : (stop : Stop) (a rest : Result (Unit {0}) Refusal) (t : List ℕ) → Stops stop a → AnswersAs {X = String Global} string_bytes (Err stop) (and_then (and_then a rest) (Ok t))
first_stops (Wrong w) a rest t e = e
first_stops (Refused r) a rest t e = ap (λ o. and_then (and_then o rest) (Ok t)) e
first_stops NoMemory a rest t e = tt

-- The second test stops.
second_stops : (stop : Stop) (a b rest : Result (Unit {0}) Refusal) (t : List ℕ) → a ≡ Ok tt → Stops stop b
    → AnswersAs {X = String Global} string_bytes (Err stop) (and_then (and_then a (and_then b rest)) (Ok t))
second_stops stop a b rest t f e = subst (λ x. AnswersAs {X = String Global} string_bytes (Err stop) (and_then (and_then x (and_then b rest)) (Ok t))) (sym f) (first_stops stop b rest t e)

-- The third test stops, the last.
third_stops : (stop : Stop) (a b c : Result (Unit {0}) Refusal) (t : List ℕ) → a ≡ Ok tt → b ≡ Ok tt → Stops stop c
    → AnswersAs {X = String Global} string_bytes (Err stop) (and_then (and_then a (and_then b c)) (Ok t))
third_stops (Wrong w) a b c t f g e = e
third_stops (Refused r) a b c t f g e = rw (f, g, e) refl
third_stops NoMemory a b c t f g e = tt

-- All three tests pass.
all_pass : (a b c : Result (Unit {0}) Refusal) (t u : List ℕ) → a ≡ Ok tt → b ≡ Ok tt → c ≡ Ok tt → t ≡ u → and_then (and_then a (and_then b c)) (Ok t) ≡ Ok u
all_pass a b c t u f g h e = rw (f, g, h, e) refl

-- The ids of all templates.
template_ids : (c : In_ok-templates) → vec_items c.in_ok-templates.templates ≡ all_templates (maps_of c.args.set.now)
template_ids c = c.in_ok-templates.ensures (all_templates_answer (maps_of c.args.set.now)) (λ place r q. search (rules, q))

-- The ids of all policies.
policy_ids : (c : In_ok-policies) → vec_items c.in_ok-policies.policies ≡ all_policies (maps_of c.args.set.now)
policy_ids c = c.in_ok-policies.ensures (policies_answer (maps_of c.args.set.now)) (λ place r q. search (rules, q))

pub returns-in_err-push_templates : goal.returns-in_err-push_templates
returns-in_err-push_templates c =
    let us = texts c.args.book.now in
    let m = maps_of c.args.set.now in
    let s = c.in_err-push_templates.field-0.0 in
    let e : c.from_residual-in_err-push_templates.result ≡ Err s = search rules in
    let asked : Stops s (names_known (length us) (vec_items c.in_ok-templates.templates)) = search rules in
    let a = subst (λ ids. Stops s (names_known (length us) ids)) (template_ids (goal.at.returns-in_err-push_templates c).In_ok-templates) asked in
    subst (λ (r : Result (String Global) Stop). AnswersAs string_bytes r (dump_answer us c.args.side m)) (sym e) (first_stops s _ _ _ a)

pub returns-in_err-push_policies : goal.returns-in_err-push_policies
returns-in_err-push_policies c =
    let us = texts c.args.book.now in
    let m = maps_of c.args.set.now in
    let s = c.in_err-push_policies.field-0.0 in
    let e : c.from_residual-in_err-push_policies.result ≡ Err s = search rules in
    let passed : names_known (length us) (vec_items c.in_ok-templates.templates) ≡ Ok tt = search rules in
    let a = subst (λ ids. names_known (length us) ids ≡ Ok tt) (template_ids (goal.at.returns-in_err-push_policies c).In_ok-templates) passed in
    let asked : Stops s (names_known (length us) (map first_id (vec_items c.in_ok-policies.policies))) = search rules in
    let b = subst (λ ids. Stops s (names_known (length us) (map first_id ids))) (policy_ids (goal.at.returns-in_err-push_policies c).In_ok-policies) asked in
    subst (λ (r : Result (String Global) Stop). AnswersAs string_bytes r (dump_answer us c.args.side m)) (sym e) (second_stops s _ _ _ _ a b)

pub returns-in_err-push_reverse : goal.returns-in_err-push_reverse
returns-in_err-push_reverse c =
    let us = texts c.args.book.now in
    let m = maps_of c.args.set.now in
    let s = c.in_err-push_reverse.field-0.0 in
    let e : c.from_residual-in_err-push_reverse.result ≡ Err s = search rules in
    let all = template_ids (goal.at.returns-in_err-push_reverse c).In_ok-templates in
    let passed : names_known (length us) (vec_items c.in_ok-templates.templates) ≡ Ok tt = search rules in
    let a = subst (λ ids. names_known (length us) ids ≡ Ok tt) all passed in
    let passed_too : names_known (length us) (map first_id (vec_items c.in_ok-policies.policies)) ≡ Ok tt = search rules in
    let b = subst (λ ids. names_known (length us) (map first_id ids) ≡ Ok tt) (policy_ids (goal.at.returns-in_err-push_reverse c).In_ok-policies) passed_too in
    let asked : Stops s (in_turn (is_template (length us) m) (vec_items c.in_ok-templates.templates)) = search rules in
    let k = subst (λ ids. Stops s (in_turn (is_template (length us) m) ids)) all asked in
    subst (λ (r : Result (String Global) Stop). AnswersAs string_bytes r (dump_answer us c.args.side m)) (sym e) (third_stops s _ _ _ _ a b k)

pub returns : goal.returns
returns c =
    let us = texts c.args.book.now in
    let m = maps_of c.args.set.now in
    let ts = vec_items c.in_ok-templates.templates in
    let ps = vec_items c.in_ok-policies.policies in
    let all = template_ids (goal.at.returns c).In_ok-templates in
    let all_too = policy_ids (goal.at.returns c).In_ok-policies in
    let first : string_bytes c.push_number-2.new.line ≡ spaced (codes "dump " ++ side_word c.args.side) (decimal (length ts) ∷ decimal (length ps) ∷ []) = search rules in
    let second : string_bytes c.push_templates.new.text ≡ with_templates us m (string_bytes c.push_number-2.new.line) ts = search rules in
    let third : string_bytes c.push_policies.new.text ≡ with_policies us m (string_bytes c.push_templates.new.text) ps = search rules in
    let fourth : string_bytes c.push_reverse.new.text ≡ with_reverses us m (string_bytes c.push_policies.new.text) ts = search rules in
    let lines = fourth
    ∙ (ap (λ text. with_reverses us m text ts) third
    ∙ (ap (λ text. with_reverses us m (with_policies us m text ps) ts) second
    ∙ (ap (λ text. with_reverses us m (with_policies us m (with_templates us m text ts) ps) ts) first
    ∙ assembled us c.args.side m ts ps all all_too))) in
    let a : names_known (length us) ts ≡ Ok tt = search rules in
    let b : names_known (length us) (map first_id ps) ≡ Ok tt = search rules in
    let k : in_turn (is_template (length us) m) ts ≡ Ok tt = search rules in
    all_pass _ _ _ _ _
    (subst (λ ids. names_known (length us) ids ≡ Ok tt) all a) (subst (λ ids. names_known (length us) (map first_id ids) ≡ Ok tt) all_too b)
    (subst (λ ids. in_turn (is_template (length us) m) ids ≡ Ok tt) all k) (sym lines)
