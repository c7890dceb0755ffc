use Rattle.std.proofs.Common.{◌≡◌, ◌++◌, [], ◌∷◌, sym, ap, ◌∙◌, take, length}
use Rattle.std.specs.Prelude.{replicate}
use Rattle.std.proofs.lemmas.List.{length-replicate}
use Rattle.port.specs.Requests.{requested}
use Rattle.port.specs.Serves.{transaction}
use Rattle.runs.specs.Histories.{bytes_read}
use Rattle.runs.proofs.CallsServed.{taken_back}
use Rattle.runs.proofs.serving.respond.Goals as goal

pub returns-clause-ok : goal.returns-clause-ok
returns-clause-ok g c =
    let call = c.args.call in
    let answer = c.request-answer.result.answer in
    let buffer = c.deref_mut.result.now in
    let after = c.request-answer.new.buffer in
    let made = c.in_ok-bytes.ensures {u = tt} in
    let zeros : buffer ≡ replicate call.room 0 = c.deref_mut.ensures.value ∙ made.items_if_clones_equal (λ y same. same) in
    let long : length buffer ≡ call.room = ap length zeros ∙ length-replicate call.room 0 in
    let (acts, serves) = c.request-answer.ensures.serves in
    let whole : length after ≡ c.in_ok-bytes.bytes.len = c.request-answer.auto.buffer ∙ long ∙ sym made.len in
    let bytes : c.first_of.result.items ≡ take (bytes_read (requested call.request (length buffer)) answer) after =
    c.first_of.ensures
    ∙ (λ i. take (c.bytes_read-count.ensures i) (taken_back c.in_ok-bytes.bytes.len after c.in_ok-bytes.bytes.items whole i))
    ∙ ap (λ n. take (bytes_read (requested call.request n) answer) after) (sym long) in
    record {
      transaction = transaction (requested call.request (length buffer)) buffer acts c.request-answer.result after;
      serves = serves;
      call_is = λ i. record { request = requested call.request (long i); before = zeros i };
      response = record { answer = answer; traffic = c.request-answer.result.traffic; bytes = c.first_of.result };
      behind = (c.in_ok-push.ensures {u = tt}).items ∙ ap (λ rs. rs ++ record { answer = answer; traffic = c.request-answer.result.traffic; bytes = c.first_of.result } ∷ []) (c.in_ok-reserve.ensures {u = tt}).items;
      response_is = λ i. record { answer = answer; traffic = c.request-answer.result.traffic; bytes = bytes i };
    }
