-- `listing_reader::words_at` meets its contract: a law for each way. Assumes nothing.
use borrow.Author.Rules.{rules}
use native.Mathlib.Omega.{arith}
use lib.ListN.{length-drop}
use Rattle.listing_reader.proofs.Walks.{within_on, language_room, page-room, words-stop, words-language, words-unpaged, words-subtitle}
use Rattle.listing_reader.proofs.words_at.Goals as goal

pub returns-then-long-eq0 : goal.returns-then-long-eq0
returns-then-long-eq0 c =
    let a = c.args in
    words-stop a.sheet.now a.at a.kind _ c.language_at-language.ensures c.if-long-eq0.true

pub returns-then-kind-ne-TI : goal.returns-then-kind-ne-TI
returns-then-kind-ne-TI c =
    let a = c.args in
    words-language a.sheet.now a.at a.kind _ c.language_at-language.ensures c.if-long-eq0.false (λ e. omega arith)

pub overflow_add-at : goal.overflow_add-at
overflow_add-at c =
    let a = c.args in
    let w = c.requires in
    let r = language_room a.sheet.now a.at a.kind _ c.language_at-language.ensures in
    omega (arith, w.inside, w.short, simp length-drop at r)

pub page_at-page-requires : goal.page_at-page-requires
page_at-page-requires c =
    let a = c.args in
    within_on _ c.requires (language_room a.sheet.now a.at a.kind _ c.language_at-language.ensures)

pub returns-then-more-eq0 : goal.returns-then-more-eq0
returns-then-more-eq0 c =
    let language-at = c.language_at-language in
    let if1 = c.if-long-eq0 in
    let page_at_lem = c.page_at-page in
    let a = c.args in
    words-unpaged a.sheet.now a.at a.kind _ language-at.ensures if1.false (search rules) _ page_at_lem.ensures c.if-more-eq0.true

pub overflow_add-result : goal.overflow_add-result
overflow_add-result c =
    let language-at = c.language_at-language in
    let if1 = c.if-long-eq0 in
    let a = c.args in
    let w = c.requires in
    let r = language_room a.sheet.now a.at a.kind _ language-at.ensures in
    let q = page-room a.sheet.now a.at a.kind _ language-at.ensures if1.false (search rules) _ c.page_at-page.ensures in
    omega (arith, w.short, simp length-drop at r, simp length-drop at q)

pub returns : goal.returns
returns c =
    let language-at = c.language_at-language in
    let if1 = c.if-long-eq0 in
    let page_at_lem = c.page_at-page in
    let a = c.args in
    words-subtitle a.sheet.now a.at a.kind _ language-at.ensures if1.false (search rules) _ page_at_lem.ensures c.if-more-eq0.false
