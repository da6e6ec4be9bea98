-- Tokens one after the other.
use Rattle.std.proofs.Common.{◌≡◌, ℕ, List, [], ◌∷◌, ◌++◌, sym, ap, ◌∙◌, append_assoc}
use Rattle.std.proofs.lemmas.List.{append-nil}
use Rattle.pef_rows.specs.declared.tokens.Token.{Token}
use Rattle.pef_rows.specs.Tokens.{token_text, tokens_after, tokens_text}

-- the text before tokens is the beginning of what they print
after-text : (text : List ℕ) (tokens : List Token) → tokens_after text tokens ≡ text ++ tokens_text tokens
after-text text [] = sym (append-nil text)
after-text text (token ∷ tokens) =
    after-text (text ++ token_text token) tokens ∙ append_assoc text (token_text token) (tokens_text tokens) ∙ ap (λ (t : List ℕ). text ++ t) (sym (after-text (token_text token) tokens))

-- the first token is printed before the others
pub tokens-more : (token : Token) (tokens : List Token) → tokens_text (token ∷ tokens) ≡ token_text token ++ tokens_text tokens
tokens-more token tokens = after-text (token_text token) tokens
