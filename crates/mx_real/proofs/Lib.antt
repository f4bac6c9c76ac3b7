mod CountLaws
mod NameLaws
