use Rattle.std.proofs.Common.{◌≡◌, ℕ, ◌+◌, ◌-◌, ◌*◌, length, refl, sym, ap, ◌∙◌, arith}
use Rattle.prefix.specs.Points.{sum_to}
use Rattle.prefix.specs.Prefixes.{kinds}
use Rattle.prefix.proofs.Points.{sum_next}
use Rattle.book.specs.RecordPlaces.{met_before}
use Rattle.book.proofs.RecordPlaces.{few_first}
use Rattle.book.proofs.list_book.places.expected_place.Goals as goal

pub overflow_mul-first : goal.overflow_mul-first
overflow_mul-first c = omega (arith, few_first c.args.prefix c.args.position c.args.setting c.later_settings.result c.requires c.later_settings.ensures.few)

pub loop-reply-init : goal.loop-reply-init
loop-reply-init c = (refl, omega arith, omega arith, few_first c.args.prefix c.args.position c.args.setting c.later_settings.result c.requires c.later_settings.ensures.few)

pub loop-reply-preserved : goal.loop-reply-preserved
loop-reply-preserved c =
    let i = c.loop-reply.invariant in
    let met : ℕ → ℕ = met_before (kinds c.args.prefix) c.args.position (c.args.setting * c.later_settings.result) in
    let here : c.loop-reply.reply + 1 - 1 ≡ c.loop-reply.reply = omega arith in
    let next : c.loop-reply.place + c.met_before-place.result ≡ sum_to met c.loop-reply.reply = omega (arith, i.0, c.met_before-place.ensures.value, sum_next met c.loop-reply.reply i.2) in
    (next ∙ ap (sum_to met) (sym here), omega (arith, c.met_before-place.ensures.few, i.1, i.2), omega arith, i.3)

pub returns-2-clause-value : goal.returns-2-clause-value
returns-2-clause-value c =
    let i = c.loop-reply.invariant in
    let ks = kinds c.args.prefix in
    let met : ℕ → ℕ = met_before ks c.args.position (c.args.setting * c.later_settings.result) in
    let last : c.loop-reply.reply ≡ length ks = omega arith in
    let next : c.loop-reply.place + c.met_before-place.result ≡ sum_to met c.loop-reply.reply = omega (arith, i.0, c.met_before-place.ensures.value, sum_next met c.loop-reply.reply i.2) in
    next ∙ ap (sum_to met) last ∙ ap (λ (r : ℕ). sum_to (met_before ks c.args.position (c.args.setting * r)) (length ks)) c.later_settings.ensures.value
