mod NumberLaws
mod FieldsLaws
mod SpellingLaws
mod CountLaws
mod OperationLaws
