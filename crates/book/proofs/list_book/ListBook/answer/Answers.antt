use Rattle.std.proofs.Common.{◌≡◌, ℕ, Bool, true, ◌&&◌, sym, ap, ◌∙◌}
use Rattle.std.specs.List.{list_any}
use Rattle.prefix.specs.Kinds.{is_reply}
use Rattle.prefix.specs.Lines.{setting_before}
use Rattle.prefix.specs.Prefixes.{kinds}
use Rattle.prefix.specs.Settings.{number}
use Rattle.book.specs.ListBooks.{records_of}
use Rattle.book.specs.Records.{is_of, says}
use Rattle.book.specs.declared.record.Record.{Record}
use Rattle.book.proofs.Records.{says_found, says_none}
use Rattle.book.proofs.list_book.ListBook.answer.Goals as goal

pub returns-in-Some : goal.returns-in-Some
returns-in-Some c =
    let b = c.args.self.now in
    let reply : is_reply (kinds b.prefix) c.args.position ≡ true = sym c.is_reply.ensures ∙ c.if-not-is_reply.false in
    let asks : ℕ → Bool = λ s. list_any (λ (r : Record). is_of c.args.position s r && says c.args.side r) (records_of b) in
    c.says.ensures
    ∙ sym (says_found b.records.now b.count b.within c.args.position c.setting_number-setting.result b.apart c.in-Some.place c.in-Some.ensures.0 c.in-Some.ensures.1 c.args.side _)
    ∙ ap asks c.setting_number-setting.ensures.value
    ∙ sym (ap (λ (x : Bool). x && asks (number (setting_before b.prefix c.args.position c.args.line.mask))) reply)

pub returns-in-None : goal.returns-in-None
returns-in-None c =
    let b = c.args.self.now in
    let reply : is_reply (kinds b.prefix) c.args.position ≡ true = sym c.is_reply.ensures ∙ c.if-not-is_reply.false in
    let asks : ℕ → Bool = λ s. list_any (λ (r : Record). is_of c.args.position s r && says c.args.side r) (records_of b) in
    sym (says_none b.records.now b.count b.within c.args.position c.setting_number-setting.result c.in-None.ensures c.args.side)
    ∙ ap asks c.setting_number-setting.ensures.value
    ∙ sym (ap (λ (x : Bool). x && asks (number (setting_before b.prefix c.args.position c.args.line.mask))) reply)
